use Rattle.std.proofs.Common.{◌≡◌, ◌≤◌, List, ℕ, false, cond, ap, sym, ◌∙◌, subst}
use Rattle.std.specs.FinMap as map
use Rattle.std.specs.Option.{option_copied}
use Rattle.fx_model.specs.Pairs.{Pairs}
use Rattle.fx_members.specs.Counts.{count_at, due, gives, shifted}
use Rattle.fx_base.specs.Grouped.{has_key}
use Rattle.fx_members.specs.Indexes.{has_text, AreByItem}
use Rattle.fx_members.proofs.NodeLemmas.{match_within, match_put, by_item_put}
use Rattle.fx_members.proofs.state.State.remove_match.Goals as goal

pub change_named-requires-clause-counted : goal.change_named-requires-clause-counted
change_named-requires-clause-counted g c = λ less q m.
    let s = c.args.self.now in
    let n = s.inputs in
    let names = option_copied c.get-names.result in
    let by : (p : List ℕ) → has_key names p ≡ has_text c.args.text.now (map.get n.uses p) = λ p. ap (λ o. has_key o p) c.get-names.ensures ∙ c.requires.kept.by_text c.args.text.now p in
    let o = map.get n.uses q in
    subst (λ x. cond (has_key names q) (gives o x m) 0 ≤ count_at s.counts q m) (sym c.get-item.ensures)
    (match_within n.items n.matched c.args.text.now c.args.key.now false c.requires.present n.uses names by s.counts c.requires.kept.counted less q m)

pub returns-clause-kept : goal.returns-clause-kept
returns-clause-kept g c =
    let s = c.args.self.now in
    let n = s.inputs in
    let t = c.args.text.now in
    let k = c.args.key.now in
    let names = option_copied c.get-names.result in
    let by : (p : List ℕ) → has_key names p ≡ has_text t (map.get n.uses p) = λ p. ap (λ o. has_key o p) c.get-names.ensures ∙ c.requires.kept.by_text t p in
    let pairs = sym c.in_ok-remove.ensures in
    record {
      by_text = c.requires.kept.by_text;
      by_item = subst (λ (ps : Pairs). AreByItem c.remove_text.new.texts ps) pairs (by_item_put s.texts c.remove_text.new.texts n.matched t k false c.requires.kept.by_item c.in_ok-remove_text.ensures);
      counted = λ q m.
          match_put n.items n.matched t k false c.requires.present n.uses names by s.counts c.requires.kept.counted c.change_named.new.counts
          (λ p i. c.in_ok-change_named.ensures.counts p i ∙ ap (λ x. shifted false (cond (has_key names p) (gives (map.get n.uses p) x i) 0) (count_at s.counts p i)) c.get-item.ensures) q m
          ∙ ap (λ (ps : Pairs). due n.items ps (map.get n.uses q) m) pairs;
    }

pub returns-clause-told : goal.returns-clause-told
returns-clause-told g c = record {
  named = λ k. c.in_ok-change_named.ensures.keys k ∙ c.requires.told.named k;
  told = c.in_ok-change_named.ensures.told;
}
