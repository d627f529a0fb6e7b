use Rattle.std.proofs.Common.{refl, ap, sym, ◌∙◌, subst}
use Rattle.std.specs.FinMap as map
use Rattle.fx_resolver.specs.Lists.{row_in}
use Rattle.fx_resolver.specs.Rows.{IsToldBut, with_row}
use Rattle.fx_resolver.proofs.RowLemmas.{is_left, told_start, told_next, rows_are}
use Rattle.fx_resolver.proofs.rows.tell_each.Goals as goal

pub loop-item-init : goal.loop-item-init
loop-item-init g c =
    let row = row_in c.args.rows.now.lists in
    let told = c.args.rows.now.told in
    record {
      lists = refl;
      told = subst (λ es. IsToldBut row c.args.endpoints.now (is_left es) told) (sym (c.into_iter-item-iterator.ensures.into_iter_gives ∙ c.iter-item-items.ensures))
          (told_start row c.args.endpoints.now c.requires.apart c.args.items.now told c.requires.told);
      endpoints = c.requires.sink;
      policies = refl;
      profiles = refl;
    }

pub tell_item-requires : goal.tell_item-requires
tell_item-requires g c = c.loop-item.invariant.endpoints

pub loop-item-preserved : goal.loop-item-preserved
loop-item-preserved g c =
    let row = row_in c.args.rows.now.lists in
    let was = c.loop-item.invariant in
    let is = c.in_ok-tell_item.ensures in
    record {
      lists = is.lists ∙ was.lists;
      told = subst (λ t. IsToldBut row c.args.endpoints.now (is_left c.next.new.self) t)
          (sym (is.told ∙ ap (λ l. with_row (row_in l) c.in-Some.item.now (map.get c.args.endpoints.now c.in-Some.item.now) c.loop-item.rows.told) was.lists))
          (told_next row c.args.endpoints.now c.requires.apart _ _ c.loop-item.rows.told
          (subst (λ es. IsToldBut row c.args.endpoints.now (is_left es) c.loop-item.rows.told) c.in-Some.ensures.steps was.told));
      endpoints = is.endpoints;
      policies = is.policies ∙ was.policies;
      profiles = is.profiles ∙ was.profiles;
    }

pub returns-clause-lists : goal.returns-clause-lists
returns-clause-lists g c = c.loop-item.invariant.lists

pub returns-clause-told : goal.returns-clause-told
returns-clause-told g c =
    let row = row_in c.args.rows.now.lists in
    rows_are row c.args.endpoints.now c.requires.apart c.loop-item.rows.told
    (subst (λ es. IsToldBut row c.args.endpoints.now (is_left es) c.loop-item.rows.told) c.in-None.ensures.steps.0 c.loop-item.invariant.told)
