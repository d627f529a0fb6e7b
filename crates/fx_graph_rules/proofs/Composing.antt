-- What the active rules told, over the first inputs.
use Rattle.std.proofs.Common.{◌≡◌, ℕ, cond, ◌&&◌, List, Option, Some, None, refl, ap, ◌∙◌}
use Rattle.std.specs.List.{list_any}
use Rattle.std.specs.FinMap as map
use Rattle.fx_base.specs.Set as set
use Rattle.fx_model.specs.Active.{has_types}
use Rattle.fx_model.specs.Pairs.{PolicyPairs}
use Rattle.fx_model.specs.Sinks.{Policies, Profiles}
use Rattle.fx_model.specs.declared.ids.ItemKey.{ItemKey}
use Rattle.fx_model.specs.declared.ids.PolicyId.{PolicyId}
use Rattle.fx_model.specs.declared.policy.Policy.{Policy}
use Rattle.fx_label_index.specs.Matched.{labels_of}
use Rattle.fx_active.specs.Active.{text_of, where_active, applies_to}
use Rattle.fx_graph_rules.specs.declared.join.Joined.{Joined}
use Rattle.fx_graph_rules.specs.Counting.{total}
use Rattle.fx_graph_rules.specs.Composed.{holds_at, acting, concerns, IsComposed}
use Rattle.fx_graph_rules.specs.Uppers.{AreInStep}
use Rattle.fx_graph_rules.proofs.Counts.{counted_tests, policy_counted}

module _ (j : Joined) (used : List ℕ → ℕ) (P : Policies) (Q : Profiles) (S : PolicyPairs) (u : AreInStep j used P Q S) where
  -- the index told where a policy's selector holds
  told : (id : PolicyId) (p : Policy) → map.get j.active.policies id ≡ Some p → (i : ItemKey) → set.contains j.active.matched (text_of p, i) ≡ holds_at j.index p.selector i
  told id p e i =
      ap (λ m. set.contains m (text_of p, i)) u.joined.same
      ∙ u.joined.matched (text_of p) i
      ∙ counted_tests j.index.selectors (total j.active.policies used) u.counted p.selector (u.selectors id p e) (policy_counted j.active.policies used id p e) (labels_of (map.get j.index.parents) (map.get j.index.items i))

  policy_joined : (id : PolicyId) (o : Option Policy) → map.get j.active.policies id ≡ o → where_active j.active.endpoints j.active.matched o ≡ acting j.index j.active.endpoints o
  policy_joined id None e = refl
  policy_joined id (Some p) e = λ k. cond (has_types p && list_any (λ i. told id p e i k) (map.keys j.active.endpoints)) (Some p) None

  pair_joined : (id : PolicyId) (o : Option Policy) → map.get j.active.policies id ≡ o → (i : ItemKey) → applies_to j.active.endpoints j.active.matched o i ≡ concerns j.index j.active.endpoints o i
  pair_joined id None e i = refl
  pair_joined id (Some p) e i = ap (λ b. has_types p && (map.contains_key j.active.endpoints i && b)) (told id p e i)

  -- two nodes, one definition
  pub composed : IsComposed j.index j.active P Q S
  composed = record {
    policies_are = λ id. u.joined.active.policies_are id ∙ policy_joined id (map.get j.active.policies id) refl;
    profiles_are = u.joined.active.profiles_are;
    pairs_are = λ id i. u.joined.active.pairs_are id i ∙ pair_joined id (map.get j.active.policies id) refl i;
  }
