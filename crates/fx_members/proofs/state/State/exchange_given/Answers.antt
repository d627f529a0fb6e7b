use Rattle.std.proofs.Common.{◌≡◌, ◌≤◌, List, ℕ, false, cond, ap, sym, ◌∙◌, subst}
use Rattle.std.specs.FinMap as map
use Rattle.std.specs.Option.{option_copied}
use Rattle.fx_base.specs.Set as set
use Rattle.fx_base.specs.Grouped.{has_key}
use Rattle.fx_model.specs.SameIds.{copies_item}
use Rattle.fx_members.specs.Counts.{count_at, due, gives, shifted}
use Rattle.fx_members.specs.Indexes.{has_text_of}
use Rattle.fx_members.specs.Inputs.{Items}
use Rattle.fx_members.proofs.NodeLemmas.{item_within_more, item_put}
use Rattle.fx_members.proofs.state.State.exchange_given.Goals as goal

pub change_with_texts-requires-2-clause-named : goal.change_with_texts-requires-2-clause-named
change_with_texts-requires-2-clause-named g c = λ k. c.in_ok-change_with_texts.ensures.keys k ∙ c.requires.told.named k

pub change_with_texts-requires-2-clause-counted : goal.change_with_texts-requires-2-clause-counted
change_with_texts-requires-2-clause-counted g c = λ less q m.
    let s = c.args.self.now in
    let n = s.inputs in
    let k = c.args.key.now in
    let texts = option_copied c.get-texts.result in
    let by : (t : List ℕ) → has_key texts t ≡ set.contains n.matched (t, k) = λ t. ap (λ o. has_key o t) c.get-texts.ensures ∙ c.requires.kept.by_item k t in
    let o = map.get n.uses q in
    subst (λ x. cond (has_text_of texts o) (gives o x m) 0 ≤ count_at c.change_with_texts.new.counts q m) (sym c.get-before.ensures)
    (item_within_more n.items n.matched k texts by n.uses s.counts c.requires.kept.counted c.args.item c.change_with_texts.new.counts c.in_ok-change_with_texts.ensures.counts q m)

pub returns-clause-inputs : goal.returns-clause-inputs
returns-clause-inputs g c =
    let n = c.args.self.now.inputs in
    λ j. record n { items = (c.in_ok-insert.ensures.ok ∙ ap (λ k. map.insert n.items k c.args.item) (copies_item _ _ c.in_ok-clone.ensures.cases)) j }

pub returns-clause-kept : goal.returns-clause-kept
returns-clause-kept g c =
    let s = c.args.self.now in
    let n = s.inputs in
    let k = c.args.key.now in
    let texts = option_copied c.get-texts.result in
    let by : (t : List ℕ) → has_key texts t ≡ set.contains n.matched (t, k) = λ t. ap (λ o. has_key o t) c.get-texts.ensures ∙ c.requires.kept.by_item k t in
    let items : c.insert.new.self ≡ map.insert n.items k c.args.item = c.in_ok-insert.ensures.ok ∙ ap (λ i. map.insert n.items i c.args.item) (copies_item _ _ c.in_ok-clone.ensures.cases) in
    let more = c.change_with_texts.new.counts in
    record {
      by_text = c.requires.kept.by_text;
      by_item = c.requires.kept.by_item;
      counted = λ q m.
          item_put n.items n.matched k texts by n.uses s.counts c.requires.kept.counted c.args.item more c.in_ok-change_with_texts.ensures.counts c.change_with_texts-2.new.counts
          (λ p i. c.in_ok-change_with_texts-2.ensures.counts p i ∙ ap (λ x. shifted false (cond (has_text_of texts (map.get n.uses p)) (gives (map.get n.uses p) x i) 0) (count_at more p i)) c.get-before.ensures) q m
          ∙ ap (λ (xs : Items). due xs n.matched (map.get n.uses q) m) (sym items);
    }

pub returns-clause-told : goal.returns-clause-told
returns-clause-told g c = record {
  named = λ k. c.in_ok-change_with_texts-2.ensures.keys k ∙ c.in_ok-change_with_texts.ensures.keys k ∙ c.requires.told.named k;
  told = c.in_ok-change_with_texts-2.ensures.told;
}
