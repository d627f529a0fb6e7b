-- The tables that guard the node's own interfaces: the sets, policies and profiles of a view, the chains of its host
-- endpoints with a jump to the failsafe ports, and the ways to them from the hooks INPUT and OUTPUT of the filter table
-- (iptables(8)). The names of chains are Felix's.
use Rattle.std.specs.Prelude.{ℕ, List, [], ◌∷◌, ◌++◌, Bool, false, filter, map, codes}
use Rattle.std.specs.List.{flat_map}
use Rattle.std.specs.FinMap as maps
use Rattle.std.proofs.Math.Nat.{le_refl}
use Rattle.fx_base.specs.Extended.{collected}
use Rattle.fx_base.specs.declared.net.PortRange.{PortRange}
use Rattle.fx_model.specs.declared.view.View.{View}
use Rattle.fx_model.specs.declared.view.ViewEndpoint.{ViewEndpoint}
use Rattle.fx_model.specs.declared.chain.End.{End}
use Rattle.fx_model.specs.declared.chain.End.TheVariants.{Source, Dest}
use Rattle.fx_model.specs.declared.chain.Match.TheVariants as match
use Rattle.fx_model.specs.declared.chain.Target.TheVariants as target
use Rattle.fx_model.specs.declared.chain.ChainRule.{ChainRule}
use Rattle.fx_model.specs.Directions.{Direction, Ingress, Egress}
use Rattle.fx_model.specs.Rendering.{plain}
use Rattle.fx_model.specs.Tables.{ChainName, Tables, endpoint_rules_with, host_hook, host_root_of, host_endpoint_chain}
use Rattle.fx_model.specs.ViewTables.{policy_chains, profile_chains}
use Rattle.fx_hostep.specs.declared.failsafe.FailsafePort.{FailsafePort}
use Rattle.fx_hostep.specs.declared.failsafe.Failsafe.{Failsafe}
use Rattle.fx_hostep.specs.FailsafePorts.{ports_for}
use Rattle.fx_hostep.specs.HostVerdict.{is_no_namespace}

-- a chain with its rules
abbrev pub Written : Type 0
Written = ChainName × List ChainRule

-- ---- failsafe ports

abbrev pub failsafe_chain : Direction → ChainName
failsafe_chain Ingress = codes "cali-failsafe-in"
failsafe_chain Egress = codes "cali-failsafe-out"

-- the range of one port
abbrev pub port_alone : ℕ → PortRange
port_alone n = record { low = n; high = n; ascending = le_refl n }

abbrev pub failsafe_rule : FailsafePort → ChainRule
failsafe_rule p =
    plain (match.Proto p.proto false ∷ match.Ports Dest (port_alone p.number ∷ []) false ∷ []) target.Accept

abbrev pub failsafe_rules : Direction → Failsafe → List ChainRule
failsafe_rules d f = map failsafe_rule (ports_for d f)

abbrev pub failsafe_chains : Failsafe → List Written
failsafe_chains f =
    (failsafe_chain Ingress, failsafe_rules Ingress f) ∷ (failsafe_chain Egress, failsafe_rules Egress f) ∷ []

-- ---- host endpoints

-- endpoints of no namespace are host endpoints
abbrev pub is_host : List ℕ × ViewEndpoint → Bool
is_host x = is_no_namespace x.1.ns

abbrev pub host_endpoints : View → List (List ℕ × ViewEndpoint)
host_endpoints v = filter is_host (maps.entries v.endpoints)

abbrev pub to_failsafe : Direction → ChainRule
to_failsafe d = plain [] (target.Jump (failsafe_chain d))

-- the failsafe ports come before the policies
abbrev pub host_rules : Direction → ViewEndpoint → List ChainRule
host_rules d e = endpoint_rules_with (to_failsafe d ∷ []) d e

abbrev pub host_chains : List ℕ × ViewEndpoint → List Written
host_chains x =
    (host_endpoint_chain Ingress x.0, host_rules Ingress x.1) ∷ (host_endpoint_chain Egress x.0, host_rules Egress x.1) ∷ []

-- ---- the ways to them

-- a packet to the node's own processes comes in on an interface, and one from them goes out on one
abbrev pub host_end : Direction → End
host_end Ingress = Source
host_end Egress = Dest

abbrev pub way_to : Direction → List ℕ → ChainRule
way_to d iface = plain (match.Iface (host_end d) iface false ∷ []) (target.Goto (host_endpoint_chain d iface))

-- a packet of any other interface goes on
abbrev pub ways_to : Direction → List (List ℕ × ViewEndpoint) → List ChainRule
ways_to d xs = map (λ x. way_to d x.0) xs

abbrev pub roots_for : List (List ℕ × ViewEndpoint) → List Written
roots_for xs = (host_root_of Ingress, ways_to Ingress xs) ∷ (host_root_of Egress, ways_to Egress xs) ∷ []

abbrev pub hook_rules : Direction → List ChainRule
hook_rules d = plain [] (target.Mark 0 0xf0000) ∷ plain [] (target.Jump (host_root_of d)) ∷ []

abbrev pub hook_chains : List Written
hook_chains = (host_hook Ingress, hook_rules Ingress) ∷ (host_hook Egress, hook_rules Egress) ∷ []

-- ---- all of them

-- each chain stands behind those that it leads to
abbrev pub host_chains_of : View → Failsafe → List Written
host_chains_of v f =
    flat_map policy_chains (maps.entries v.policies) ++ (flat_map profile_chains (maps.entries v.profiles)
    ++ (failsafe_chains f ++ (flat_map host_chains (host_endpoints v) ++ (roots_for (host_endpoints v) ++ hook_chains))))

abbrev pub host_tables_of : View → Failsafe → Tables
host_tables_of v f = record { sets = v.sets; chains = collected (host_chains_of v f) }
