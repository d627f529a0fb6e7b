use Rattle.std.proofs.Common.{◌≡◌, ◌+◌, min, ◌++◌, inl, sym, ◌∙◌, ap, subst, arith, List, ℕ, append_assoc, refl, [], length, length-append}
use Rattle.std.proofs.lemmas.List.{append-nil}
use Rattle.std.proofs.lemmas.Bool.{false≢true}
use Rattle.fx_base.proofs.Compose.{Gives-more, Gives-none}
use Rattle.fx_lines.specs.Lines.{line_limit, clip}
use Rattle.fx_lines.specs.Held.{rest_of, line_of}
use Rattle.fx_lines.proofs.Cuts.{OnErr-always}
use Rattle.fx_lines.proofs.Clips.{IsSeen, NoneBetween, IsSeen-none, IsSeen-more, found_at, last_at, length-clip}
use Rattle.fx_lines.proofs.lines.LineReader.advance.Goals as goal

pub loop-self-init : goal.loop-self-init
loop-self-init g c = record {
  seen = ([], subst (λ (l : List ℕ). IsSeen l (rest_of c.args.self.now) 0) (sym (append-nil (rest_of c.args.self.now))) (IsSeen-none (rest_of c.args.self.now)), Gives-none _);
  given = c.requires.given;
  ended = c.requires.ended;
  quiet = λ was. (was, refl);
  later = omega arith;
  within = omega arith;
}

pub returns-then-at-rest-clause-next : goal.returns-then-at-rest-clause-next
returns-then-at-rest-clause-next g c =
    let seen = c.loop-self.invariant.seen in
    let held = rest_of c.loop-self.self in
    let at = c.newline_from-at.result in
    let none : NoneBetween held c.loop-self.seen at = subst (λ (l : List ℕ). NoneBetween l c.loop-self.seen at) c.rest.ensures c.newline_from-at.ensures.none in
    let found = found_at (rest_of c.args.self.now ++ seen.0) held c.loop-self.seen at seen.1 none (rest_of c.cut.new.self) (line_of c.cut.new.self) (omega (arith, ap length c.rest-in-loop-self.ensures)) (omega arith) c.cut.ensures.rest c.cut.ensures.line in
    (seen.0, found.line, seen.2, (found.clear, inl found.cut), λ is. found.clipped)

pub returns-then-self-clause-next : goal.returns-then-self-clause-next
returns-then-self-clause-next g c =
    let seen = c.loop-self.invariant.seen in
    let held = rest_of c.loop-self.self in
    let at = c.newline_from-at.result in
    let none : NoneBetween held c.loop-self.seen at = subst (λ (l : List ℕ). NoneBetween l c.loop-self.seen at) c.rest.ensures c.newline_from-at.ensures.none in
    let last = last_at (rest_of c.args.self.now ++ seen.0) held c.loop-self.seen at seen.1 none (omega (arith, ap length c.rest-in-loop-self.ensures))
    (rest_of c.args.self.now) seen.0 (line_of c.cut_last.new.self) (rest_of c.cut_last.new.self) c.cut_last.result c.cut_last.new.self.ended
    refl c.cut_last.ensures.some c.cut_last.ensures.none c.cut_last.ensures.rest (c.cut_last.ensures.same.1 ∙ c.if-self.true) in
    (seen.0, rest_of c.args.self.now ++ seen.0, seen.2, last.0, last.1)

pub loop-self-preserved : goal.loop-self-preserved
loop-self-preserved g c =
    let seen = c.loop-self.invariant.seen in
    let ok = c.in_ok-fill.ensures.ok in
    let held = rest_of c.loop-self.self in
    let at = c.newline_from-at.result in
    let none : NoneBetween held c.loop-self.seen at = subst (λ (l : List ℕ). NoneBetween l c.loop-self.seen at) c.rest.ensures c.newline_from-at.ensures.none in
    let place : c.min-seen.result ≡ min (line_limit + 1) (length held) = omega (arith, ap length c.rest.ensures, ap length c.rest-in-loop-self.ensures) in
    record {
      seen = (
        seen.0 ++ ok.0,
        IsSeen-more (rest_of c.args.self.now ++ seen.0) held c.loop-self.seen at seen.1 none (omega (arith, ap length c.rest-in-loop-self.ensures))
            ok.0 _ _ _ (sym (append_assoc (rest_of c.args.self.now) seen.0 ok.0)) ok.1 place,
        Gives-more _ _ _ seen.0 ok.0 seen.2 ok.2,
      );
      given = c.in_ok-fill.ensures.given;
      ended = c.in_ok-fill.ensures.ended;
      quiet = λ was. let is = (c.loop-self.invariant.quiet was).0 in absurd (false≢true (sym c.if-self.false ∙ is));
      later = omega arith;
      within = omega (arith, place, ap length ok.1, length-append (clip held) ok.0, length-clip held);
    }

pub returns-in_err-fill-clause-stopped : goal.returns-in_err-fill-clause-stopped
returns-in_err-fill-clause-stopped g c =
    let seen = c.loop-self.invariant.seen in
    let stop = c.in_err-fill.ensures.stopped in
    OnErr-always c.from_residual.result (seen.0 ++ stop.0, Gives-more _ _ _ seen.0 stop.0 seen.2 stop.1)

pub returns-in_err-fill-clause-known : goal.returns-in_err-fill-clause-known
returns-in_err-fill-clause-known g c = OnErr-always c.from_residual.result (c.in_err-fill.ensures.given, c.in_err-fill.ensures.ended)
