-- What the resolver knows of policies.
use Rattle.std.specs.Prelude.{◌≡◌, cond, not, ◌&&◌, is_some, Option, None, option_map}
use Rattle.std.specs.FinMap as map
use Rattle.fx_names.specs.Digests.{Digest}
use Rattle.fx_model.specs.Sinks.{Policies}
use Rattle.fx_model.specs.Views.{policy_key}
use Rattle.fx_model.specs.declared.ids.PolicyId.{PolicyId}
use Rattle.fx_model.specs.contracts.ids.PolicyIdOrd.TheImpl as policy_cmp
use Rattle.fx_resolver.specs.Known.{known_policy, KnownPolicies}
use Rattle.fx_resolver.specs.declared.known.KnownPolicy.{KnownPolicy}
use Rattle.fx_logs.specs.Touched.{Keys}

-- a policy that may be absent, as it is known
abbrev pub known_at : Digest → Policies → PolicyId → Option KnownPolicy
known_at dg policies id = option_map (known_policy (policy_key dg id)) (map.get policies id)

-- these policies are known, and no others
abbrev pub AreKnown : Digest → Policies → KnownPolicies → Type 0
AreKnown dg policies known = (id : PolicyId) → map.get known id ≡ known_at dg policies id

-- the same, but for those that were touched
abbrev pub AreKnownBut : Digest → Keys policy_cmp.cmp-value.it → Policies → KnownPolicies → Type 0
AreKnownBut dg touched policies known = (id : PolicyId) → map.get touched id ≡ None → map.get known id ≡ known_at dg policies id

-- ---- while pairs change

-- a policy that stands, as it is known, and else what was known before
abbrev pub standing_at : Digest → Policies → KnownPolicies → PolicyId → Option KnownPolicy
standing_at dg policies before id = cond (is_some (map.get policies id)) (known_at dg policies id) (map.get before id)

abbrev pub AreStanding : Digest → Policies → KnownPolicies → KnownPolicies → Type 0
AreStanding dg policies before known = (id : PolicyId) → map.get known id ≡ standing_at dg policies before id

-- nothing of a policy that was touched and is gone, and else what was known before
abbrev pub unless_gone_at : Keys policy_cmp.cmp-value.it → Policies → KnownPolicies → PolicyId → Option KnownPolicy
unless_gone_at touched policies before id = cond (is_some (map.get touched id) && not (is_some (map.get policies id))) None (map.get before id)

abbrev pub AreWithoutGone : Keys policy_cmp.cmp-value.it → Policies → KnownPolicies → KnownPolicies → Type 0
AreWithoutGone touched policies before known = (id : PolicyId) → map.get known id ≡ unless_gone_at touched policies before id
