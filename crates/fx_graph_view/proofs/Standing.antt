-- Policies that stand are known before pairs change, and those that are gone are taken off behind that.
use Rattle.std.proofs.Common.{◌≡◌, true, false, cond, ◌&&◌, Option, Some, None, is_some, not, Bor, refl, sym, ap, ◌∙◌}
use Rattle.std.specs.Prelude.{option_map}
use Rattle.std.specs.Option.{option_copied}
use Rattle.std.specs.FinMap as map
use Rattle.fx_base.proofs.Cases.{never}
use Rattle.fx_names.specs.Digests.{Digest}
use Rattle.fx_model.specs.Sinks.{Policies}
use Rattle.fx_model.specs.Views.{policy_key}
use Rattle.fx_model.specs.declared.ids.PolicyId.{PolicyId}
use Rattle.fx_model.specs.declared.policy.Policy.{Policy}
use Rattle.fx_model.specs.contracts.ids.PolicyIdOrd.TheImpl as policy_cmp
use Rattle.fx_resolver.specs.Known.{known_policy, KnownPolicies}
use Rattle.fx_resolver.specs.declared.known.KnownPolicy.{KnownPolicy}
use Rattle.fx_logs.specs.Touched.{Keys}
use Rattle.fx_graph_view.specs.Knowing.{known_at, AreKnown, AreKnownBut, standing_at, AreStanding, unless_gone_at, AreWithoutGone}

pub lent_some : {A : Type 0} (o : Option (Bor A)) → is_some (option_copied o) ≡ is_some o
lent_some None = refl
lent_some (Some x) = refl

module _ (dg : Digest) (policies : Policies) (before : KnownPolicies) (id : PolicyId) where
  pub stands : (p : Policy) → map.get policies id ≡ Some p → standing_at dg policies before id ≡ Some (known_policy (policy_key dg id) p)
  stands p is = ap (λ o. cond (is_some o) (option_map (known_policy (policy_key dg id)) o) (map.get before id)) is

  pub was : map.get policies id ≡ None → map.get before id ≡ standing_at dg policies before id
  was none = ap (λ o. cond (is_some o) (option_map (known_policy (policy_key dg id)) o) (map.get before id)) (sym none)

  pub untouched : map.get before id ≡ known_at dg policies id → map.get before id ≡ standing_at dg policies before id
  untouched known = elim (is_some (map.get policies id)) as (λ b. map.get before id ≡ cond b (known_at dg policies id) (map.get before id)) [
    | true ↦ known
    | false ↦ refl
  ]

module _ (touched : Keys policy_cmp.cmp-value.it) (policies : Policies) (before : KnownPolicies) (id : PolicyId) where
  pub left : map.get touched id ≡ None → map.get before id ≡ unless_gone_at touched policies before id
  left none = ap (λ t. cond (is_some t && not (is_some (map.get policies id))) None (map.get before id)) (sym none)

  pub stays : is_some (map.get policies id) ≡ true → map.get before id ≡ unless_gone_at touched policies before id
  stays there = ap (λ b. cond b None (map.get before id)) (sym (ap (λ b. is_some (map.get touched id) && not b) there ∙ never (is_some (map.get touched id))))

  pub gone : (v : Unit {0}) → map.get touched id ≡ Some v → is_some (map.get policies id) ≡ false → unless_gone_at touched policies before id ≡ None
  gone v here none = λ j. cond (is_some (here j) && not (none j)) None (map.get before id)

-- both together
pub all_known : (dg : Digest) (touched : Keys policy_cmp.cmp-value.it) (policies : Policies) (first between last : KnownPolicies) → AreKnownBut dg touched policies first → AreStanding dg policies first between → AreWithoutGone touched policies between last → AreKnown dg policies last
all_known dg touched policies first between last behind standing without id =
    without id
    ∙ elim (map.get policies id) as (λ o. map.get policies id ≡ o → unless_gone_at touched policies between id ≡ known_at dg policies id) [
      | Some p ↦ λ is. sym (stays touched policies between id (ap is_some is)) ∙ standing id ∙ stands dg policies first id p is ∙ ap (option_map (known_policy (policy_key dg id))) (sym is)
      | None ↦ λ none.
          elim (map.get touched id) as (λ t. map.get touched id ≡ t → unless_gone_at touched policies between id ≡ known_at dg policies id) [
            | Some v ↦ λ here. gone touched policies between id v here (ap is_some none) ∙ ap (option_map (known_policy (policy_key dg id))) (sym none)
            | None ↦ λ out. sym (left touched policies between id out) ∙ standing id ∙ sym (was dg policies first id none) ∙ behind id out
          ] refl
    ] refl
