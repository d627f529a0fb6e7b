-- What the sink is to have. From Felix's documented calculation graph: a policy is active while it applies to some endpoint
-- of the node, and a profile while some endpoint lists it, whether it is there or not.
use Rattle.std.specs.Prelude.{◌≡◌, ℕ, Bool, false, cond, ◌&&◌, nat_eq, List, Option, Some, None}
use Rattle.std.specs.Cmp.Lexicographic.{pointwise}
use Rattle.std.specs.List.{list_any}
use Rattle.std.specs.FinMap as map
use Rattle.fx_base.specs.Set as set
use Rattle.fx_selector.specs.Canonical.{canonical_text}
use Rattle.fx_model.specs.Active.{has_types}
use Rattle.fx_model.specs.Pairs.{Pairs, PolicyPairs}
use Rattle.fx_model.specs.Sinks.{Policies, Profiles}
use Rattle.fx_model.specs.declared.ids.ItemKey.{ItemKey}
use Rattle.fx_model.specs.declared.ids.PolicyId.{PolicyId}
use Rattle.fx_model.specs.declared.policy.Policy.{Policy}
use Rattle.fx_active.specs.Inputs.{Endpoints, Named}

abbrev pub text_of : Policy → List ℕ
text_of p = canonical_text p.selector

-- the same of a policy that is there
abbrev pub selector_text : Option Policy → Option (List ℕ)
selector_text None = None
selector_text (Some p) = Some (text_of p)

-- the selector holds on some endpoint that is there
abbrev pub holds_somewhere : Endpoints → Pairs → List ℕ → Bool
holds_somewhere endpoints matched t = list_any (λ i. set.contains matched (t, i)) (map.keys endpoints)

-- the policy, while it applies to some endpoint
abbrev pub where_active : Endpoints → Pairs → Option Policy → Option Policy
where_active endpoints matched None = None
where_active endpoints matched (Some p) = cond (has_types p && holds_somewhere endpoints matched (text_of p)) (Some p) None

-- whether it applies to the endpoint
abbrev pub applies_to : Endpoints → Pairs → Option Policy → ItemKey → Bool
applies_to endpoints matched None i = false
applies_to endpoints matched (Some p) i = has_types p && (map.contains_key endpoints i && set.contains matched (text_of p, i))

abbrev pub is_in : List (List ℕ) → List ℕ → Bool
is_in names name = list_any (λ q. pointwise nat_eq q name) names

-- some endpoint that is there lists the profile
abbrev pub is_listed : Endpoints → List ℕ → Bool
is_listed endpoints name = list_any (λ e. is_in e.1 name) (map.entries endpoints)

-- the sink's policies are those that are active
abbrev pub ArePolicies : Policies → Endpoints → Pairs → Policies → Type 0
ArePolicies policies endpoints matched output = (id : PolicyId) → map.get output id ≡ where_active endpoints matched (map.get policies id)

-- its profiles are those that are listed, each with the profile or with none
abbrev pub AreProfiles : Named → Endpoints → Profiles → Type 0
AreProfiles profiles endpoints output = (name : List ℕ) → map.get output name ≡ cond (is_listed endpoints name) (Some (map.get profiles name)) None

-- its pairs are those of a policy and an endpoint to which it applies
abbrev pub ArePairs : Policies → Endpoints → Pairs → PolicyPairs → Type 0
ArePairs policies endpoints matched output = (id : PolicyId) (i : ItemKey) → set.contains output (id, i) ≡ applies_to endpoints matched (map.get policies id) i
