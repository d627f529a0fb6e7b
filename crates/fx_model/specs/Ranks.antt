-- How deep chains lead. By iptables(8) a rule may jump or go to a user-defined chain, and the kernel refuses tables with a
-- loop; the chains of the filter table that Felix renders stand in five ranks, and each rule leads to a lower one.
use Rattle.std.specs.Prelude.{◌≡◌, ◌<◌, ℕ, ◌+◌, Bool, ◌||◌, ◌&&◌, if◌then◌else◌, codes, List, [], ◌∷◌, ◌++◌, length, nat_eq, Some}
use Rattle.std.specs.List.{starts_with}
use Rattle.std.specs.Str.{bytes_eq}
use Rattle.std.specs.FinMap as maps
use Rattle.fx_names.specs.Names.{prefix_text}
use Rattle.fx_names.specs.declared.prefix.Prefix.TheVariants.{ToEndpoint, FromEndpoint}
use Rattle.fx_model.specs.declared.chain.Target.{Target}
use Rattle.fx_model.specs.declared.chain.Target.TheVariants as target
use Rattle.fx_model.specs.declared.chain.ChainRule.{ChainRule}
use Rattle.fx_model.specs.Directions.{Ingress, Egress}
use Rattle.fx_model.specs.Tables.{ChainName, Chains, forward, root_of, host_hook, host_root_of, host_prefix}

abbrev pub is_root : ChainName → Bool
is_root name = bytes_eq name (root_of Egress) || bytes_eq name (root_of Ingress)

-- a root's name, a dash and one byte
abbrev pub is_child_of : ChainName → ChainName → Bool
is_child_of root name = starts_with nat_eq name (root ++ codes "-") && nat_eq (length name) (length root + 2)

abbrev pub is_child : ChainName → Bool
is_child name = is_child_of (root_of Egress) name || is_child_of (root_of Ingress) name

-- the first chains of the hooks INPUT and OUTPUT
abbrev pub is_host_hook : ChainName → Bool
is_host_hook name = bytes_eq name (host_hook Ingress) || bytes_eq name (host_hook Egress)

abbrev pub is_host_root : ChainName → Bool
is_host_root name = bytes_eq name (host_root_of Ingress) || bytes_eq name (host_root_of Egress)

abbrev pub is_of_host_endpoint : ChainName → Bool
is_of_host_endpoint name = starts_with nat_eq name (host_prefix Ingress) || starts_with nat_eq name (host_prefix Egress)

abbrev pub is_of_endpoint : ChainName → Bool
is_of_endpoint name = starts_with nat_eq name (prefix_text ToEndpoint) || starts_with nat_eq name (prefix_text FromEndpoint)

-- policies, profiles and lists of failsafe ports lead nowhere
abbrev pub rank_of : ChainName → ℕ
rank_of name =
    if bytes_eq name forward || is_host_hook name then 4
    else (if is_root name || is_host_root name then 3
    else (if is_child name then 2
    else (if is_of_endpoint name || is_of_host_endpoint name then 1
    else 0)))

-- a jump or goto leads to a chain of a rank below this one
abbrev pub LeadsBelow : ℕ → Target → Type 0
LeadsBelow rank target.Accept = Unit {0}
LeadsBelow rank target.Drop = Unit {0}
LeadsBelow rank target.Return = Unit {0}
LeadsBelow rank (target.Jump to) = rank_of to < rank
LeadsBelow rank (target.Goto to) = rank_of to < rank
LeadsBelow rank (target.Mark value mask) = Unit {0}
LeadsBelow rank target.Log = Unit {0}

abbrev pub AllLeadBelow : ℕ → List ChainRule → Type 0
AllLeadBelow rank [] = Unit {0}
AllLeadBelow rank (r ∷ rs) = LeadsBelow rank r.target × AllLeadBelow rank rs

-- each rule of each chain leads to chains of lower ranks alone
pub record IsRanked (chains : Chains) : Type 0 where
  pub lower : (name : ChainName) (rules : List ChainRule) → maps.get chains name ≡ Some rules → AllLeadBelow (rank_of name) rules
