use Rattle.std.proofs.Common.{◌≡◌, [], ◌∷◌, ◌++◌, sym, ◌∙◌, arith}
use Rattle.std.proofs.lemmas.Result.{err_from_is_err_and}
use Rattle.fx_selector.specs.Reading.{series}
use Rattle.fx_selector.specs.Reader.{string}
use Rattle.fx_selector.proofs.Goes.{goes_first, goes_next, goes_done, goes_stop_part}
use Rattle.fx_selector.proofs.Failing.{fails_on}
use Rattle.fx_selector.proofs.grammar.strings_at.Goals as goal

pub more-init : goal.more-init
more-init c = (
  rw c.in_ok-push.ensures.items (rw c.new-parts.ensures.items (goes_first (λ _. string) 44 [] c.args.rest.now c.in_ok-first.first c.in_ok-first.behind.now (λ n h. c.in_ok-first.ensures.reads) (omega (arith, c.in_ok-first.ensures.shorter)))),
  omega (arith, c.in_ok-first.ensures.shorter),
)

pub returns-in_err-part-clause-reads : goal.returns-in_err-part-clause-reads
returns-in_err-part-clause-reads c = λ n h.
    let p = err_from_is_err_and c.from_residual-in_err-part.result c.from_residual-in_err-part.ensures.1 in
    rw (p.1, p.2) (fails_on c.in_err-part.field-0.0 (string c.in_ok-next.next.now) (series string 44 [] n c.args.rest.now) c.in_err-part.ensures.reads
    (goes_stop_part (λ _. string) 44 [] c.args.rest.now c.more.parts.items c.more.after.now c.more.invariant.0 (sym c.begins.ensures ∙ c.more-test.true) c.in_ok-next.next.now c.in_ok-next.ensures.reads n h))

pub more-preserved : goal.more-preserved
more-preserved c =
    let e : c.push-in-more.new.self.items ≡ c.more.parts.items ++ c.in_ok-part.part ∷ [] = c.in_ok-push-2.ensures.items in (
      rw e (goes_next (λ _. string) 44 [] c.args.rest.now c.more.parts.items c.more.after.now c.more.invariant.0 (sym c.begins.ensures ∙ c.more-test.true) (omega (arith, c.in_ok-next.ensures.shorter, c.in_ok-part.ensures.shorter, c.more.invariant.1)) c.in_ok-next.next.now c.in_ok-next.ensures.reads (omega (arith, c.in_ok-next.ensures.shorter, c.in_ok-part.ensures.shorter, c.more.invariant.1)) c.in_ok-part.part c.in_ok-part.more.now (λ n h. c.in_ok-part.ensures.reads) (omega (arith, c.in_ok-next.ensures.shorter, c.in_ok-part.ensures.shorter, c.more.invariant.1))),
      omega (arith, c.in_ok-next.ensures.shorter, c.in_ok-part.ensures.shorter, c.more.invariant.1),
    )

pub returns-clause-reads : goal.returns-clause-reads
returns-clause-reads c = goes_done (λ _. string) 44 [] c.args.rest.now c.more.parts.items c.more.after.now c.more.invariant.0 (sym c.begins.ensures ∙ c.more-test.false)
