use Rattle.std.proofs.Common.{◌≡◌, ℕ, List, refl, ap, sym, ◌∙◌, subst}
use Rattle.std.specs.Cmp.Lexicographic.{nat_list_cmp_total}
use Rattle.std.specs.FinMap as map
use Rattle.std.specs.Option.{option_copied}
use Rattle.fx_base.proofs.KeyCases.{bytes_exact}
use Rattle.fx_base.proofs.Walk.{IsRest, IsRest-start, IsRest-next}
use Rattle.fx_base.specs.Grouped.{has_key}
use Rattle.fx_members.specs.Indexes.{has_text}
use Rattle.fx_members.proofs.WalkLemmas.{TextsSoFar, texts_start, texts_left, texts_next, texts_end}
use Rattle.fx_members.proofs.walks.change_each_text.Goals as goal

pub loop-text-init : goal.loop-text-init
loop-text-init g c =
    let texts = c.args.texts.now in
    let counts = c.args.counts.now in
    let es = sym (c.into_iter-text-iterator.ensures.into_iter_gives ∙ c.iter-text-items.ensures) in
    record {
      rest = subst (λ xs. IsRest texts xs) es (IsRest-start nat_list_cmp_total texts);
      counts = subst (λ xs. TextsSoFar c.args.uses.now texts (option_copied c.args.item) c.args.more counts counts xs) es
          (texts_start c.args.uses.now texts (option_copied c.args.item) c.args.more counts);
      told = c.requires.told;
      keys = λ k. refl;
    }

pub change_named-requires-clause-named : goal.change_named-requires-clause-named
change_named-requires-clause-named g c = λ k. c.loop-text.invariant.keys k ∙ c.requires.named k

pub change_named-requires-clause-counted : goal.change_named-requires-clause-counted
change_named-requires-clause-counted g c = λ less q m.
    let texts = c.args.texts.now in
    let uses = c.args.uses.now in
    let item = option_copied c.args.item in
    let counts = c.args.counts.now in
    let now = c.loop-text.counts in
    let text = c.in-Some.text.now in
    let rest = subst (λ xs. IsRest texts xs) c.in-Some.ensures.steps c.loop-text.invariant.rest in
    let so_far = subst (λ xs. TextsSoFar uses texts item c.args.more counts now xs) c.in-Some.ensures.steps c.loop-text.invariant.counts in
    let by : (n : List ℕ) → has_key (option_copied c.get.result) n ≡ has_text text (map.get uses n) =
    λ n. ap (λ o. has_key o n) c.get.ensures ∙ c.requires.by_text text n in
    texts_left uses texts item c.args.more counts now _ _ rest so_far (option_copied c.get.result) by (c.requires.counted less) q m

pub loop-text-preserved : goal.loop-text-preserved
loop-text-preserved g c =
    let texts = c.args.texts.now in
    let uses = c.args.uses.now in
    let item = option_copied c.args.item in
    let counts = c.args.counts.now in
    let now = c.loop-text.counts in
    let text = c.in-Some.text.now in
    let rest = subst (λ xs. IsRest texts xs) c.in-Some.ensures.steps c.loop-text.invariant.rest in
    let so_far = subst (λ xs. TextsSoFar uses texts item c.args.more counts now xs) c.in-Some.ensures.steps c.loop-text.invariant.counts in
    let by : (n : List ℕ) → has_key (option_copied c.get.result) n ≡ has_text text (map.get uses n) =
    λ n. ap (λ o. has_key o n) c.get.ensures ∙ c.requires.by_text text n in
    let is = c.in_ok-change_named.ensures in
    record {
      rest = IsRest-next nat_list_cmp_total bytes_exact texts _ _ rest;
      counts = texts_next uses texts item c.args.more counts now _ _ rest so_far (option_copied c.get.result) by c.change_named.new.counts is.counts;
      told = is.told;
      keys = λ k. is.keys k ∙ c.loop-text.invariant.keys k;
    }

pub returns-clause-counts : goal.returns-clause-counts
returns-clause-counts g c =
    let item = option_copied c.args.item in
    texts_end c.args.uses.now c.args.texts.now item c.args.more c.args.counts.now c.loop-text.counts
    (subst (λ xs. TextsSoFar c.args.uses.now c.args.texts.now item c.args.more c.args.counts.now c.loop-text.counts xs) c.in-None.ensures.steps.0 c.loop-text.invariant.counts)
