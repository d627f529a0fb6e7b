use Rattle.std.proofs.Common.{◌≤◌, cond, is_some, refl, ap, sym, ◌∙◌, subst}
use Rattle.std.specs.Cmp.Lexicographic.{nat_list_cmp_total}
use Rattle.std.specs.Option.{option_copied}
use Rattle.fx_base.proofs.KeyCases.{bytes_exact}
use Rattle.fx_base.proofs.Walk.{IsRest, IsRest-start, IsRest-next}
use Rattle.fx_members.specs.Counts.{count_at, gives, shifted}
use Rattle.fx_base.specs.Grouped.{same_text}
use Rattle.fx_members.proofs.WalkLemmas.{NamedSoFar, named_start, named_left, named_next, named_end}
use Rattle.fx_members.proofs.walks.change_each_named.Goals as goal

pub loop-name-init : goal.loop-name-init
loop-name-init g c =
    let names = c.args.names.now in
    let counts = c.args.counts.now in
    let es = sym (c.into_iter-name-iterator.ensures.into_iter_gives ∙ c.iter-name-items.ensures) in
    record {
      rest = subst (λ xs. IsRest names xs) es (IsRest-start nat_list_cmp_total names);
      counts = subst (λ xs. NamedSoFar c.args.uses.now names (option_copied c.args.item) c.args.more counts counts xs) es
          (named_start c.args.uses.now names (option_copied c.args.item) c.args.more counts);
      told = c.requires.told;
      keys = λ k. refl;
    }

pub change_item-requires-clause-there : goal.change_item-requires-clause-there
change_item-requires-clause-there g c = λ h.
    let name = c.in-Some.name.now in
    c.loop-name.invariant.keys name ∙ c.requires.named name ∙ ap is_some (sym c.get.ensures) ∙ h

pub change_item-requires-clause-counted : goal.change_item-requires-clause-counted
change_item-requires-clause-counted g c = λ less m.
    let names = c.args.names.now in
    let item = option_copied c.args.item in
    let counts = c.args.counts.now in
    let now = c.loop-name.counts in
    let rest = subst (λ xs. IsRest names xs) c.in-Some.ensures.steps c.loop-name.invariant.rest in
    let so_far = subst (λ xs. NamedSoFar c.args.uses.now names item c.args.more counts now xs) c.in-Some.ensures.steps c.loop-name.invariant.counts in
    subst (λ o. gives o item m ≤ count_at now c.in-Some.name.now m) (sym c.get.ensures)
    (named_left c.args.uses.now names item c.args.more counts now _ _ rest so_far (c.requires.counted less) m)

pub loop-name-preserved : goal.loop-name-preserved
loop-name-preserved g c =
    let names = c.args.names.now in
    let item = option_copied c.args.item in
    let counts = c.args.counts.now in
    let now = c.loop-name.counts in
    let rest = subst (λ xs. IsRest names xs) c.in-Some.ensures.steps c.loop-name.invariant.rest in
    let so_far = subst (λ xs. NamedSoFar c.args.uses.now names item c.args.more counts now xs) c.in-Some.ensures.steps c.loop-name.invariant.counts in
    let is = c.in_ok-change_item.ensures in
    record {
      rest = IsRest-next nat_list_cmp_total bytes_exact names _ _ rest;
      counts = named_next c.args.uses.now names item c.args.more counts now _ _ rest so_far c.change_item.new.counts (λ q m.
          is.counts q m ∙ ap (λ o. shifted c.args.more (cond (same_text q c.in-Some.name.now) (gives o item m) 0) (count_at now q m)) c.get.ensures);
      told = is.told;
      keys = λ k. is.keys k ∙ c.loop-name.invariant.keys k;
    }

pub returns-clause-counts : goal.returns-clause-counts
returns-clause-counts g c =
    let item = option_copied c.args.item in
    named_end c.args.uses.now c.args.names.now item c.args.more c.args.counts.now c.loop-name.counts
    (subst (λ xs. NamedSoFar c.args.uses.now c.args.names.now item c.args.more c.args.counts.now c.loop-name.counts xs) c.in-None.ensures.steps.0 c.loop-name.invariant.counts)
