use Rattle.std.proofs.Common.{◌≡◌, ℕ, Bool, List, length, Some, sym, ap, ◌∙◌, subst}
use Rattle.std.specs.Cmp.Lexicographic.{nat_list_cmp_total}
use Rattle.std.specs.FinMap as map
use Rattle.fx_base.specs.Ticks.{ticked}
use Rattle.fx_base.proofs.KeyCases.{bytes_exact}
use Rattle.fx_base.proofs.Walk.{IsRest, IsRest-start, IsRest-next}
use Rattle.fx_label_index.specs.Matched.{tests}
use Rattle.fx_label_index.proofs.Candidates.{HalfTested, tested-start, tested-next, tested-head, tested-tick, tested-number, text_there, text_within}
use Rattle.fx_label_index.proofs.testing.test_texts.Goals as goal

pub loop-text-init : goal.loop-text-init
loop-text-init g c =
    let e = c.into_iter-text-iterator.ensures.into_iter_gives ∙ c.iter-text-items.ensures in
    let f : List ℕ → Bool = λ t. tests (map.get c.args.selectors.now t) (Some c.args.labels.now) in
    record {
      rest = subst (λ es. IsRest c.args.candidates.now es) (sym e) (IsRest-start nat_list_cmp_total c.args.candidates.now);
      half = subst (λ es. HalfTested f c.new-holding.result es) (sym e)
          (tested-start nat_list_cmp_total bytes_exact f c.args.candidates.now (λ t h. c.requires t ∙ text_within c.args.labels.now t (map.get c.args.selectors.now t) h) c.new-holding.result c.new-holding.ensures);
      ticks = ap (λ es. ticked (length es) (g.T.Ticker.number c.args.ticks.now)) e;
    }

pub test_text-holds-requires : goal.test_text-holds-requires
test_text-holds-requires g c =
    let f : List ℕ → Bool = λ t. tests (map.get c.args.selectors.now t) (Some c.args.labels.now) in
    let rest = subst (λ es. IsRest c.args.candidates.now es) c.in-Some.ensures.steps c.loop-text.invariant.rest in
    text_there c.args.labels.now c.in-Some.text.now (map.get c.args.selectors.now c.in-Some.text.now) (sym (c.requires c.in-Some.text.now) ∙ tested-head nat_list_cmp_total bytes_exact f c.args.candidates.now _ _ rest)

pub loop-text-preserved : goal.loop-text-preserved
loop-text-preserved g c =
    let f : List ℕ → Bool = λ t. tests (map.get c.args.selectors.now t) (Some c.args.labels.now) in
    let rest = subst (λ es. IsRest c.args.candidates.now es) c.in-Some.ensures.steps c.loop-text.invariant.rest in
    let half = subst (λ es. HalfTested f c.loop-text.holding es) c.in-Some.ensures.steps c.loop-text.invariant.half in
    let ticks = subst (λ es. ticked (length es) (g.T.Ticker.number c.loop-text.ticks) ≡ ticked (length (map.entries c.args.candidates.now)) (g.T.Ticker.number c.args.ticks.now)) c.in-Some.ensures.steps c.loop-text.invariant.ticks in
    record {
      rest = IsRest-next nat_list_cmp_total bytes_exact c.args.candidates.now _ _ rest;
      half = tested-next nat_list_cmp_total bytes_exact f c.args.candidates.now c.loop-text.holding c.hold_text.new.texts _ _ c.test_text-holds.result rest half c.test_text-holds.ensures.answer c.in_ok-hold_text.ensures;
      ticks = tested-tick nat_list_cmp_total bytes_exact f c.args.candidates.now (g.T.Ticker.number c.loop-text.ticks) (g.T.Ticker.number c.test_text-holds.new.ticks) _ _ _ rest c.test_text-holds.ensures.tick ticks;
    }

pub returns-clause-answers : goal.returns-clause-answers
returns-clause-answers g c = λ t.
    (subst (λ es. HalfTested (λ t. tests (map.get c.args.selectors.now t) (Some c.args.labels.now)) c.loop-text.holding es) c.in-None.ensures.steps.0 c.loop-text.invariant.half).at t tt

pub returns-clause-ticks : goal.returns-clause-ticks
returns-clause-ticks g c =
    tested-number nat_list_cmp_total bytes_exact (λ t. tests (map.get c.args.selectors.now t) (Some c.args.labels.now)) c.args.candidates.now (g.T.Ticker.number c.loop-text.ticks) (g.T.Ticker.number c.args.ticks.now)
    (subst (λ es. ticked (length es) (g.T.Ticker.number c.loop-text.ticks) ≡ ticked (length (map.entries c.args.candidates.now)) (g.T.Ticker.number c.args.ticks.now)) c.in-None.ensures.steps.0 c.loop-text.invariant.ticks)
