-- The chains that policies, profiles and endpoints are rendered to, and the first chain: chains of the filter table by iptables(8). The
-- names of the chains and their prefixes are Felix's.
use Rattle.std.specs.Prelude.{ℕ, List, [], ◌∷◌, ◌++◌, Bool, true, false, codes}
use Rattle.std.specs.Ordering.{nat_cmp}
use Rattle.std.specs.Cmp.Lexicographic.{slice_cmp}
use Rattle.std.specs.FinMap as maps
use Rattle.fx_base.specs.Set as set
use Rattle.fx_names.specs.Names.{prefix_text}
use Rattle.fx_names.specs.declared.prefix.Prefix.TheVariants.{PolicyIn, PolicyOut, ProfileIn, ProfileOut, ToEndpoint, FromEndpoint}
use Rattle.fx_model.specs.contracts.member.MemberOrd.TheImpl.{cmp-value}
use Rattle.fx_model.specs.declared.view_rule.ViewRule.{ViewRule}
use Rattle.fx_model.specs.declared.view.ViewPolicy.{ViewPolicy}
use Rattle.fx_model.specs.declared.view.ViewProfile.{ViewProfile}
use Rattle.fx_model.specs.declared.view.ViewTier.{ViewTier}
use Rattle.fx_model.specs.declared.view.ViewEndpoint.{ViewEndpoint}
use Rattle.fx_model.specs.declared.chain.End.{End}
use Rattle.fx_model.specs.declared.chain.End.TheVariants.{Source, Dest}
use Rattle.fx_model.specs.declared.chain.Match.TheVariants as match
use Rattle.fx_model.specs.declared.chain.Target.TheVariants as target
use Rattle.fx_model.specs.declared.chain.Reason.TheVariants as reason
use Rattle.fx_model.specs.declared.chain.ChainRule.{ChainRule}
use Rattle.fx_model.specs.Directions.{Direction, Ingress, Egress}
use Rattle.fx_model.specs.Rendering.{accept_mark, pass_mark, plain, tagged, clear_mark, is_set, is_clear, rendered_rules}

-- a chain's name, as bytes
abbrev pub ChainName : Type 0
ChainName = List ℕ

abbrev pub Sets : Type 0
Sets = maps.FinMap (slice_cmp nat_cmp) (set.Set cmp-value.it)

abbrev pub Chains : Type 0
Chains = maps.FinMap (slice_cmp nat_cmp) (List ChainRule)

-- the dataplane's tables
pub record Tables : Type 0 where
  pub sets : Sets
  pub chains : Chains

-- ---- chains of policies and profiles

abbrev pub policy_chain : Direction → List ℕ → ChainName
policy_chain Ingress key = prefix_text PolicyIn ++ key
policy_chain Egress key = prefix_text PolicyOut ++ key

abbrev pub profile_chain : Direction → List ℕ → ChainName
profile_chain Ingress key = prefix_text ProfileIn ++ key
profile_chain Egress key = prefix_text ProfileOut ++ key

abbrev pub policy_side : Direction → ViewPolicy → List ViewRule
policy_side Ingress p = p.ingress
policy_side Egress p = p.egress

abbrev pub profile_side : Direction → ViewProfile → List ViewRule
profile_side Ingress p = p.ingress
profile_side Egress p = p.egress

abbrev pub policy_rules : Direction → ViewPolicy → List ChainRule
policy_rules d p = rendered_rules (reason.Policy p.id) 1 (policy_side d p)

-- a missing profile drops
abbrev pub present_or_missing : Bool → List ℕ → List ChainRule → List ChainRule
present_or_missing true name rules = tagged [] target.Drop (reason.MissingProfile name) ∷ []
present_or_missing false name rules = rules

abbrev pub profile_rules : Direction → ViewProfile → List ChainRule
profile_rules d p = present_or_missing p.missing p.name (rendered_rules (reason.Profile p.name) 1 (profile_side d p))

-- ---- chains of endpoints

abbrev pub endpoint_chain : Direction → List ℕ → ChainName
endpoint_chain Ingress iface = prefix_text ToEndpoint ++ iface
endpoint_chain Egress iface = prefix_text FromEndpoint ++ iface

-- a policy is asked while none has passed
abbrev pub policy_jumps : Direction → List (List ℕ) → List ChainRule
policy_jumps d [] = []
policy_jumps d (key ∷ keys) =
    plain (is_clear pass_mark ∷ []) (target.Jump (policy_chain d key)) ∷ plain (is_set accept_mark ∷ []) target.Return ∷ policy_jumps d keys

-- the policies of a tier, of which none has passed at its start
abbrev pub tier_policies : Direction → ViewTier → List ChainRule
tier_policies d t = plain [] (clear_mark pass_mark) ∷ policy_jumps d t.policies

-- the end of a tier drops what none has passed, unless the tier passes at its end
abbrev pub pass_or_drop : Bool → List ℕ → List ChainRule
pass_or_drop true name = []
pass_or_drop false name = tagged (is_clear pass_mark ∷ []) target.Drop (reason.EndOfTier name) ∷ []

abbrev pub tier_end : ViewTier → List ChainRule
tier_end t = pass_or_drop t.pass_at_end t.name

-- the tiers, each with its end, and then what follows them
abbrev pub tier_rules : Direction → List ViewTier → List ChainRule → List ChainRule
tier_rules d [] rest = rest
tier_rules d (t ∷ ts) rest = tier_policies d t ++ (tier_end t ++ tier_rules d ts rest)

-- the profiles, and then the end
abbrev pub profile_jumps : Direction → List (List ℕ) → List ChainRule
profile_jumps d [] = tagged [] target.Drop reason.NoProfileRule ∷ []
profile_jumps d (key ∷ keys) =
    plain [] (target.Jump (profile_chain d key)) ∷ plain (is_set accept_mark ∷ []) target.Return ∷ profile_jumps d keys

abbrev pub tiers_side : Direction → ViewEndpoint → List ViewTier
tiers_side Ingress e = e.ingress
tiers_side Egress e = e.egress

-- with rules behind the two for connections that are known or invalid, as the chain of one of the node's own interfaces has a
-- jump to its failsafe ports there
abbrev pub endpoint_rules_with : List ChainRule → Direction → ViewEndpoint → List ChainRule
endpoint_rules_with third d e =
    tagged (match.State true ∷ []) target.Accept reason.Established
    ∷ tagged (match.State false ∷ []) target.Drop reason.Invalid
    ∷ (third ++ (plain [] (clear_mark accept_mark) ∷ tier_rules d (tiers_side d e) (profile_jumps d e.profiles)))

abbrev pub endpoint_rules : Direction → ViewEndpoint → List ChainRule
endpoint_rules d e = endpoint_rules_with [] d e

-- ---- the way to an endpoint's chain

abbrev pub forward : ChainName
forward = codes "cali-FORWARD"

abbrev pub root_of : Direction → ChainName
root_of Ingress = codes "cali-to-wl-dispatch"
root_of Egress = codes "cali-from-wl-dispatch"

abbrev pub end_of : Direction → End
end_of Ingress = Dest
end_of Egress = Source

-- each interface goes to its endpoint's chain, and every other one is unknown
abbrev pub dispatch_rules : Direction → List (List ℕ) → List ChainRule
dispatch_rules d [] = tagged [] target.Drop reason.UnknownInterface ∷ []
dispatch_rules d (iface ∷ ifaces) =
    plain (match.Iface (end_of d) iface false ∷ []) (target.Goto (endpoint_chain d iface)) ∷ dispatch_rules d ifaces

abbrev pub forward_rules : List ChainRule
forward_rules =
    plain [] (target.Mark 0 0xf0000)
    ∷ plain (match.Iface Source (codes "cali") true ∷ []) (target.Jump (root_of Egress))
    ∷ plain (match.Iface Dest (codes "cali") true ∷ []) (target.Jump (root_of Ingress))
    ∷ []

-- ---- the chains of the node's own interfaces, for packets to its own processes and from them

-- where packets of the hooks INPUT and OUTPUT come first
abbrev pub host_hook : Direction → ChainName
host_hook Ingress = codes "cali-INPUT"
host_hook Egress = codes "cali-OUTPUT"

abbrev pub host_root_of : Direction → ChainName
host_root_of Ingress = codes "cali-from-host-endpoint"
host_root_of Egress = codes "cali-to-host-endpoint"

abbrev pub host_prefix : Direction → List ℕ
host_prefix Ingress = codes "cali-fh-"
host_prefix Egress = codes "cali-th-"

abbrev pub host_endpoint_chain : Direction → List ℕ → ChainName
host_endpoint_chain d iface = host_prefix d ++ iface
