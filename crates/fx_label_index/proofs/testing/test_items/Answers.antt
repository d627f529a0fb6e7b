use Rattle.std.proofs.Common.{◌≡◌, Bool, length, sym, ap, ◌∙◌, subst}
use Rattle.std.specs.FinMap as map
use Rattle.fx_base.specs.Ticks.{ticked}
use Rattle.fx_base.proofs.Walk.{IsRest, IsRest-start, IsRest-next}
use Rattle.fx_model.proofs.Orders.{item_total, exact_item}
use Rattle.fx_model.specs.declared.ids.ItemKey.{ItemKey}
use Rattle.fx_label_index.specs.Matched.{holds_on}
use Rattle.fx_label_index.proofs.Candidates.{HalfTested, tested-start, tested-next, tested-head, tested-tick, tested-number, item_there, item_within}
use Rattle.fx_label_index.proofs.testing.test_items.Goals as goal

pub loop-key-init : goal.loop-key-init
loop-key-init g c =
    let e = c.into_iter-key-iterator.ensures.into_iter_gives ∙ c.iter-key-items.ensures in
    let f : ItemKey → Bool = λ i. holds_on c.args.selector.now (map.get c.args.labels.now i) in
    record {
      rest = subst (λ es. IsRest c.args.candidates.now es) (sym e) (IsRest-start item_total c.args.candidates.now);
      half = subst (λ es. HalfTested f c.new-holding.result es) (sym e)
          (tested-start item_total exact_item f c.args.candidates.now (λ i h. c.requires i ∙ item_within c.args.selector.now (map.get c.args.labels.now i) h) c.new-holding.result c.new-holding.ensures);
      ticks = ap (λ es. ticked (length es) (g.T.Ticker.number c.args.ticks.now)) e;
    }

pub test_item-holds-requires : goal.test_item-holds-requires
test_item-holds-requires g c =
    let f : ItemKey → Bool = λ i. holds_on c.args.selector.now (map.get c.args.labels.now i) in
    let rest = subst (λ es. IsRest c.args.candidates.now es) c.in-Some.ensures.steps c.loop-key.invariant.rest in
    item_there c.args.selector.now _ (sym (c.requires _) ∙ tested-head item_total exact_item f c.args.candidates.now _ _ rest)

pub loop-key-preserved : goal.loop-key-preserved
loop-key-preserved g c =
    let f : ItemKey → Bool = λ i. holds_on c.args.selector.now (map.get c.args.labels.now i) in
    let rest = subst (λ es. IsRest c.args.candidates.now es) c.in-Some.ensures.steps c.loop-key.invariant.rest in
    let half = subst (λ es. HalfTested f c.loop-key.holding es) c.in-Some.ensures.steps c.loop-key.invariant.half in
    let ticks = subst (λ es. ticked (length es) (g.T.Ticker.number c.loop-key.ticks) ≡ ticked (length (map.entries c.args.candidates.now)) (g.T.Ticker.number c.args.ticks.now)) c.in-Some.ensures.steps c.loop-key.invariant.ticks in
    record {
      rest = IsRest-next item_total exact_item c.args.candidates.now _ _ rest;
      half = tested-next item_total exact_item f c.args.candidates.now c.loop-key.holding c.set_item.new.items _ _ c.test_item-holds.result rest half c.test_item-holds.ensures.answer c.in_ok-set_item.ensures;
      ticks = tested-tick item_total exact_item f c.args.candidates.now (g.T.Ticker.number c.loop-key.ticks) (g.T.Ticker.number c.test_item-holds.new.ticks) _ _ _ rest c.test_item-holds.ensures.tick ticks;
    }

pub returns-clause-answers : goal.returns-clause-answers
returns-clause-answers g c = λ i.
    (subst (λ es. HalfTested (λ i. holds_on c.args.selector.now (map.get c.args.labels.now i)) c.loop-key.holding es) c.in-None.ensures.steps.0 c.loop-key.invariant.half).at i tt

pub returns-clause-ticks : goal.returns-clause-ticks
returns-clause-ticks g c =
    tested-number item_total exact_item (λ i. holds_on c.args.selector.now (map.get c.args.labels.now i)) c.args.candidates.now (g.T.Ticker.number c.loop-key.ticks) (g.T.Ticker.number c.args.ticks.now)
    (subst (λ es. ticked (length es) (g.T.Ticker.number c.loop-key.ticks) ≡ ticked (length (map.entries c.args.candidates.now)) (g.T.Ticker.number c.args.ticks.now)) c.in-None.ensures.steps.0 c.loop-key.invariant.ticks)
