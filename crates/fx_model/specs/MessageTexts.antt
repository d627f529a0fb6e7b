-- What is told of a view as text, each message a line with its newline. The messages are those of Felix's protocol to its
-- dataplane (`felixbackend.proto`), one word and its fields a line.
use Rattle.std.specs.Prelude.{ℕ, List, [], ◌∷◌, ◌++◌, Bool, true, false, codes, decimal, length}
use Rattle.std.specs.List.{flat_map}
use Rattle.fx_model.specs.declared.member.Member.{Member}
use Rattle.fx_model.specs.declared.view_rule.ViewRule.{ViewRule}
use Rattle.fx_model.specs.declared.view.ViewProfile.{ViewProfile}
use Rattle.fx_model.specs.declared.view.ViewTier.{ViewTier}
use Rattle.fx_model.specs.declared.view.ViewEndpoint.{ViewEndpoint}
use Rattle.fx_model.specs.Messages.{Change, SetAdd, SetDelta, PolicyPut, ProfilePut, EndpointPut, EndpointGone, ProfileGone, PolicyGone, SetGone}
use Rattle.fx_model.specs.PolicyIdTexts.{policy_id_text}
use Rattle.fx_model.specs.MemberTexts.{member_text, type_text}

-- each member with this before it
abbrev pub each_member : List ℕ → List Member → List ℕ
each_member lead ms = flat_map (λ m. lead ++ member_text m) ms

-- words, each but the first behind a mark
abbrev pub behind : List ℕ → List (List ℕ) → List ℕ
behind mark ws = flat_map (λ w. mark ++ w) ws

-- a list of words with marks between them, and `-` for none
abbrev pub listed_text : List ℕ → List (List ℕ) → List ℕ
listed_text mark [] = codes "-"
listed_text mark (w ∷ ws) = w ++ behind mark ws

abbrev pub keys_text : List (List ℕ) → List ℕ
keys_text keys = listed_text (codes ",") keys

-- what a tier that passes at its end has behind its name
abbrev pub pass_text : Bool → List ℕ
pass_text true = codes "/pass"
pass_text false = []

-- `TIER(KEY,KEY)`, or `TIER/pass(KEY,KEY)`
abbrev pub tier_text : ViewTier → List ℕ
tier_text t = t.name ++ (pass_text t.pass_at_end ++ (codes "(" ++ (keys_text t.policies ++ codes ")")))

abbrev pub later_tiers : List ViewTier → List ℕ
later_tiers ts = flat_map (λ t. codes ";" ++ tier_text t) ts

abbrev pub tiers_text : List ViewTier → List ℕ
tiers_text [] = codes "-"
tiers_text (t ∷ ts) = tier_text t ++ later_tiers ts

-- how many rules there are of each direction
abbrev pub counts_text : List ViewRule → List ViewRule → List ℕ
counts_text ingress egress = codes "in " ++ (decimal (length ingress) ++ (codes " out " ++ decimal (length egress)))

-- the rules of a profile, or that there is no such profile
abbrev pub rules_text : Bool → ViewProfile → List ℕ
rules_text true p = codes "missing"
rules_text false p = counts_text p.ingress p.egress

-- the tiers for packets to the endpoint, and those for packets from it
abbrev pub sides_text : ViewEndpoint → List ℕ
sides_text e = codes " in " ++ (tiers_text e.ingress ++ (codes " out " ++ tiers_text e.egress))

abbrev pub endpoint_text : ViewEndpoint → List ℕ
endpoint_text e = e.ns ++ (codes "/" ++ (e.name ++ (sides_text e ++ (codes " profiles " ++ keys_text e.profiles))))

-- a word and a name
abbrev pub named_line : List ℕ → List ℕ → List ℕ
named_line word name = word ++ (name ++ codes "\n")

abbrev pub message_line : Change → List ℕ
message_line (SetAdd name ms) = codes "set-add " ++ (name ++ (codes " " ++ (type_text name ++ (each_member (codes " ") ms ++ codes "\n"))))
message_line (SetDelta name adds removes) =
    codes "set-delta " ++ (name ++ (each_member (codes " +") adds ++ (each_member (codes " -") removes ++ codes "\n")))
message_line (PolicyPut key p) =
    codes "policy " ++ (key ++ (codes " " ++ (policy_id_text p.id ++ (codes " " ++ (counts_text p.ingress p.egress ++ codes "\n")))))
message_line (ProfilePut key p) =
    codes "profile " ++ (key ++ (codes " " ++ (p.name ++ (codes " " ++ (rules_text p.missing p ++ codes "\n")))))
message_line (EndpointPut iface e) = codes "endpoint " ++ (iface ++ (codes " " ++ (endpoint_text e ++ codes "\n")))
message_line (EndpointGone iface) = named_line (codes "endpoint-remove ") iface
message_line (ProfileGone key) = named_line (codes "profile-remove ") key
message_line (PolicyGone key) = named_line (codes "policy-remove ") key
message_line (SetGone name) = named_line (codes "set-remove ") name
