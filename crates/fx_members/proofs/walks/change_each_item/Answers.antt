use Rattle.std.proofs.Common.{◌≤◌, cond, Some, refl, ap, sym, ◌∙◌, subst}
use Rattle.fx_base.proofs.Walk.{IsRest, IsRest-start, IsRest-next}
use Rattle.fx_model.proofs.Orders.{item_total, exact_item}
use Rattle.fx_members.specs.Counts.{count_at, gives, shifted}
use Rattle.fx_base.specs.Grouped.{same_text}
use Rattle.fx_members.proofs.WalkLemmas.{ItemsSoFar, items_start, items_left, items_next, items_end}
use Rattle.fx_members.proofs.walks.change_each_item.Goals as goal

pub loop-key-init : goal.loop-key-init
loop-key-init g c =
    let keys = c.args.keys.now in
    let counts = c.args.counts.now in
    let es = sym (c.into_iter-key-iterator.ensures.into_iter_gives ∙ c.iter-key-items.ensures) in
    record {
      rest = subst (λ xs. IsRest keys xs) es (IsRest-start item_total keys);
      counts = subst (λ xs. ItemsSoFar keys c.args.set.now c.args.items.now c.args.name c.args.more counts counts xs) es
          (items_start keys c.args.set.now c.args.items.now c.args.name c.args.more counts c.requires.counted);
      told = c.requires.told;
      keys = λ k. refl;
    }

pub change_item-requires-clause-there : goal.change_item-requires-clause-there
change_item-requires-clause-there g c = λ _. c.loop-key.invariant.keys c.args.name ∙ c.requires.there

pub change_item-requires-clause-counted : goal.change_item-requires-clause-counted
change_item-requires-clause-counted g c = λ less m.
    let keys = c.args.keys.now in
    let set = c.args.set.now in
    let items = c.args.items.now in
    let counts = c.args.counts.now in
    let now = c.loop-key.counts in
    let rest = subst (λ xs. IsRest keys xs) c.in-Some.ensures.steps c.loop-key.invariant.rest in
    let so_far = subst (λ xs. ItemsSoFar keys set items c.args.name c.args.more counts now xs) c.in-Some.ensures.steps c.loop-key.invariant.counts in
    subst (λ o. gives (Some set) o m ≤ count_at now c.args.name m) (sym c.get.ensures)
    (items_left keys set items c.args.name c.args.more counts now _ _ rest so_far less m)

pub loop-key-preserved : goal.loop-key-preserved
loop-key-preserved g c =
    let keys = c.args.keys.now in
    let set = c.args.set.now in
    let items = c.args.items.now in
    let counts = c.args.counts.now in
    let now = c.loop-key.counts in
    let rest = subst (λ xs. IsRest keys xs) c.in-Some.ensures.steps c.loop-key.invariant.rest in
    let so_far = subst (λ xs. ItemsSoFar keys set items c.args.name c.args.more counts now xs) c.in-Some.ensures.steps c.loop-key.invariant.counts in
    let is = c.in_ok-change_item.ensures in
    record {
      rest = IsRest-next item_total exact_item keys _ _ rest;
      counts = items_next keys set items c.args.name c.args.more counts now _ _ rest so_far c.change_item.new.counts (λ q m.
          is.counts q m ∙ ap (λ o. shifted c.args.more (cond (same_text q c.args.name) (gives (Some set) o m) 0) (count_at now q m)) c.get.ensures);
      told = is.told;
      keys = λ k. is.keys k ∙ c.loop-key.invariant.keys k;
    }

pub returns-clause-counts : goal.returns-clause-counts
returns-clause-counts g c =
    let set = c.args.set.now in
    let items = c.args.items.now in
    items_end c.args.keys.now set items c.args.name c.args.more c.args.counts.now c.loop-key.counts
    (subst (λ xs. ItemsSoFar c.args.keys.now set items c.args.name c.args.more c.args.counts.now c.loop-key.counts xs) c.in-None.ensures.steps.0 c.loop-key.invariant.counts)
