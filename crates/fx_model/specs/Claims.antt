-- The names in the kernel that resources claim, and which claims clash as records change.
use Rattle.std.specs.Prelude.{◌≡◌, ℕ, ◌<◌, List, [], ◌∷◌, ◌++◌, map, false, codes, if◌then◌else◌, Option, Some, None}
use Rattle.std.specs.List.{flat_map}
use Rattle.std.specs.Str.{bytes_eq}
use Rattle.std.specs.FinMap as maps
use Rattle.fx_base.specs.declared.kernel_name.KernelName.TheVariants.{Chain, Set}
use Rattle.fx_base.specs.declared.set_name.SetKind.{SetKind}
use Rattle.fx_base.specs.declared.set_name.SetKind.TheVariants.{Nets, Ports}
use Rattle.fx_names.specs.Digests.{Digest}
use Rattle.fx_names.specs.Names.{chain_name_of}
use Rattle.fx_names.specs.Claims.{Clash, times, clashes, first_clash}
use Rattle.fx_names.specs.declared.claim.Claim.{Claim}
use Rattle.fx_names.specs.declared.prefix.Prefix.TheVariants.{PolicyIn, PolicyOut, ProfileIn, ProfileOut, ToEndpoint, FromEndpoint}
use Rattle.fx_model.specs.declared.ids.PolicyId.{PolicyId}
use Rattle.fx_model.specs.declared.policy.Policy.{Policy}
use Rattle.fx_model.specs.declared.ids.ItemKey.{ItemKey}
use Rattle.fx_model.specs.declared.ids.ItemKey.TheVariants as item_key
use Rattle.fx_model.specs.declared.ids.Key.{Key}
use Rattle.fx_model.specs.declared.ids.Key.TheVariants as key
use Rattle.fx_model.specs.declared.resources.Endpoint.{Endpoint}
use Rattle.fx_model.specs.declared.resources.Item.{Item}
use Rattle.fx_model.specs.declared.resources.Item.TheVariants as item
use Rattle.fx_model.specs.declared.resources.Profile.{Profile}
use Rattle.fx_model.specs.declared.resources.Resources.{Resources}
use Rattle.fx_model.specs.declared.resources.Update.{Update}
use Rattle.fx_model.specs.declared.resources.Update.TheVariants as update
use Rattle.fx_model.specs.Resources.{after, after_delete}
use Rattle.fx_model.specs.declared.set_use.SetUse.{SetUse}
use Rattle.fx_model.specs.PolicyIdTexts.{policy_id_text}
use Rattle.fx_model.specs.Sets.{policy_uses, profile_uses, use_name}

-- `NS/NAME`; a network set of no namespace is told by its name
abbrev pub item_text : ItemKey → List ℕ
item_text (item_key.Endpoint ns name) = ns ++ (codes "/" ++ name)
item_text (item_key.NetSet (Some ns) name) = ns ++ (codes "/" ++ name)
item_text (item_key.NetSet None name) = name

-- a profile's two chains
abbrev pub profile_chains : Digest → List ℕ → List Claim
profile_chains dg name =
    record { name = Chain (chain_name_of dg ProfileIn name); holder = codes "profile " ++ name }
    ∷ record { name = Chain (chain_name_of dg ProfileOut name); holder = codes "profile " ++ name }
    ∷ []

-- a policy's two chains
abbrev pub policy_chains : Digest → PolicyId → List Claim
policy_chains dg id =
    record { name = Chain (chain_name_of dg PolicyIn (policy_id_text id)); holder = codes "policy " ++ policy_id_text id }
    ∷ record { name = Chain (chain_name_of dg PolicyOut (policy_id_text id)); holder = codes "policy " ++ policy_id_text id }
    ∷ []

-- a set, whose holder is all that its name is made from
abbrev pub kind_letter : SetKind → List ℕ
kind_letter Nets = codes "s"
kind_letter Ports = codes "n"

abbrev pub set_holder : SetUse → List ℕ
set_holder u = codes "set " ++ (kind_letter u.kind ++ (codes " " ++ u.text))

abbrev pub set_claim : Digest → SetUse → Claim
set_claim dg u = record { name = Set (use_name dg u); holder = set_holder u }

-- a profile's chains and the sets of its rules, and the same of a policy
abbrev pub profile_claims : Digest → List ℕ → Profile → List Claim
profile_claims dg name p = profile_chains dg name ++ map (set_claim dg) (profile_uses p)

abbrev pub policy_claims : Digest → PolicyId → Policy → List Claim
policy_claims dg id p = policy_chains dg id ++ map (set_claim dg) (policy_uses p)

-- an endpoint's two chains
abbrev pub interface_claims : Digest → ItemKey → Endpoint → List Claim
interface_claims dg k e =
    record { name = Chain (chain_name_of dg ToEndpoint e.iface); holder = codes "endpoint " ++ item_text k }
    ∷ record { name = Chain (chain_name_of dg FromEndpoint e.iface); holder = codes "endpoint " ++ item_text k }
    ∷ []

-- an endpoint of this node claims its chains and those of each profile that it lists, whether the profile is there or not; other
-- endpoints claim nothing
abbrev pub endpoint_claims : Digest → List ℕ → ItemKey → Endpoint → List Claim
endpoint_claims dg node k e =
    if bytes_eq e.node node then interface_claims dg k e ++ flat_map (profile_chains dg) e.profiles else []

abbrev pub claims_of_endpoint : Digest → List ℕ → Key → Endpoint → List Claim
claims_of_endpoint dg node (key.Item k) e = endpoint_claims dg node k e
claims_of_endpoint dg node (key.Profile name) e = []
claims_of_endpoint dg node (key.Tier name) e = []
claims_of_endpoint dg node (key.Policy id) e = []

abbrev pub claims_of_profile : Digest → Key → Profile → List Claim
claims_of_profile dg (key.Item k) p = []
claims_of_profile dg (key.Profile name) p = profile_claims dg name p
claims_of_profile dg (key.Tier name) p = []
claims_of_profile dg (key.Policy id) p = []

abbrev pub claims_of_policy : Digest → Key → Policy → List Claim
claims_of_policy dg (key.Item k) p = []
claims_of_policy dg (key.Profile name) p = []
claims_of_policy dg (key.Tier name) p = []
claims_of_policy dg (key.Policy id) p = policy_claims dg id p

-- what a resource at a key claims; a tier has no chain of its own, and no network set is named in the kernel unless a rule uses it
abbrev pub claims_of : Digest → List ℕ → Key → Item → List Claim
claims_of dg node k (item.Endpoint e) = claims_of_endpoint dg node k e
claims_of dg node k (item.Profile p) = claims_of_profile dg k p
claims_of dg node k (item.Tier t) = []
claims_of dg node k (item.Policy p) = claims_of_policy dg k p
claims_of dg node k (item.NetSet s) = []

abbrev pub listed_claims : Digest → List ℕ → ItemKey → Option Endpoint → List Claim
listed_claims dg node k None = []
listed_claims dg node k (Some e) = endpoint_claims dg node k e

abbrev pub named_claims : Digest → List ℕ → Option Profile → List Claim
named_claims dg name None = []
named_claims dg name (Some p) = profile_claims dg name p

abbrev pub given_policy_claims : Digest → PolicyId → Option Policy → List Claim
given_policy_claims dg id None = []
given_policy_claims dg id (Some p) = policy_claims dg id p

-- what the resource at a key claims; nothing where none is there
abbrev pub claims_at : Digest → Resources → Key → List Claim
claims_at dg R (key.Item (item_key.Endpoint ns name)) =
    listed_claims dg R.node (item_key.Endpoint ns name) (maps.get R.endpoints (item_key.Endpoint ns name))
claims_at dg R (key.Item (item_key.NetSet ns name)) = []
claims_at dg R (key.Profile name) = named_claims dg name (maps.get R.profiles name)
claims_at dg R (key.Tier name) = []
claims_at dg R (key.Policy id) = given_policy_claims dg id (maps.get R.policies id)

-- what all resources claim
abbrev pub all_claims : Digest → Resources → List Claim
all_claims dg R =
    flat_map (λ x. endpoint_claims dg R.node x.0 x.1) (maps.entries R.endpoints)
    ++ (flat_map (λ x. profile_claims dg x.0 x.1) (maps.entries R.profiles) ++ flat_map (λ x. policy_claims dg x.0 x.1) (maps.entries R.policies))

-- the keys whose records an update touches
abbrev pub touched_by : Update → List Key
touched_by update.InSync = []
touched_by (update.Put k x) = k ∷ []
touched_by (update.Delete k) = k ∷ []

-- the resources without the records at these keys
abbrev pub without : Resources → List Key → Resources
without R [] = R
without R (k ∷ ks) = without (after_delete R k) ks

-- Where the records at these keys become those of the resources at the end: the first of their claims there, in order, that clashes
-- with one of the other records or with one before it.
abbrev pub clash_at : Digest → Resources → List Key → Resources → Option Clash
clash_at dg R keys end = first_clash (all_claims dg (without R keys)) (flat_map (claims_at dg end) keys)

-- the first clash that an update makes
abbrev pub clash : Digest → Resources → Update → Option Clash
clash dg R u = clash_at dg R (touched_by u) (after R u)

-- no two of these claims clash
abbrev pub AreApart : List Claim → Type 0
AreApart claims = (c d : Claim) → 0 < times c claims → 0 < times d claims → clashes c d ≡ false

abbrev pub IsClashFree : Digest → Resources → Type 0
IsClashFree dg R = AreApart (all_claims dg R)
