use Rattle.std.proofs.Common.{◌≡◌, ◌≤◌, List, ℕ, false, cond, ap, sym, ◌∙◌, subst}
use Rattle.std.specs.FinMap as map
use Rattle.std.specs.Option.{option_copied}
use Rattle.fx_base.specs.Set as set
use Rattle.fx_base.specs.Grouped.{has_key}
use Rattle.fx_members.specs.Counts.{count_at, due, gives, shifted}
use Rattle.fx_members.specs.Indexes.{has_text_of}
use Rattle.fx_members.specs.Inputs.{Items}
use Rattle.fx_members.proofs.NodeLemmas.{item_within, item_gone}
use Rattle.fx_members.proofs.state.State.remove_item.Goals as goal

pub change_with_texts-requires-clause-counted : goal.change_with_texts-requires-clause-counted
change_with_texts-requires-clause-counted g c = λ less q m.
    let s = c.args.self.now in
    let n = s.inputs in
    let k = c.args.key.now in
    let texts = option_copied c.get-texts.result in
    let by : (t : List ℕ) → has_key texts t ≡ set.contains n.matched (t, k) = λ t. ap (λ o. has_key o t) c.get-texts.ensures ∙ c.requires.kept.by_item k t in
    let o = map.get n.uses q in
    subst (λ x. cond (has_text_of texts o) (gives o x m) 0 ≤ count_at s.counts q m) (sym c.get-item.ensures)
    (item_within n.items n.matched k texts by n.uses s.counts c.requires.kept.counted q m)

pub returns-clause-kept : goal.returns-clause-kept
returns-clause-kept g c =
    let s = c.args.self.now in
    let n = s.inputs in
    let k = c.args.key.now in
    let texts = option_copied c.get-texts.result in
    let by : (t : List ℕ) → has_key texts t ≡ set.contains n.matched (t, k) = λ t. ap (λ o. has_key o t) c.get-texts.ensures ∙ c.requires.kept.by_item k t in
    record {
      by_text = c.requires.kept.by_text;
      by_item = c.requires.kept.by_item;
      counted = λ q m.
          item_gone n.items n.matched k texts by n.uses s.counts c.requires.kept.counted c.change_with_texts.new.counts
          (λ p i. c.in_ok-change_with_texts.ensures.counts p i ∙ ap (λ x. shifted false (cond (has_text_of texts (map.get n.uses p)) (gives (map.get n.uses p) x i) 0) (count_at s.counts p i)) c.get-item.ensures) q m
          ∙ ap (λ (xs : Items). due xs n.matched (map.get n.uses q) m) (sym c.remove.ensures.removed);
    }

pub returns-clause-told : goal.returns-clause-told
returns-clause-told g c = record {
  named = λ k. c.in_ok-change_with_texts.ensures.keys k ∙ c.requires.told.named k;
  told = c.in_ok-change_with_texts.ensures.told;
}
