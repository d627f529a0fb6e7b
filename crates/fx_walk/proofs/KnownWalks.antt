-- The walk over a view whose chains are known, looked up in a list, so that it can be computed.
use Rattle.std.proofs.Common.{◌≡◌, ℕ, zero, suc, List, [], None, refl, ap, ◌∙◌}
use Rattle.std.specs.Ordering.{nat_cmp}
use Rattle.std.specs.Cmp.Lexicographic.{slice_cmp, nat_list_cmp_total}
use Rattle.fx_model.specs.declared.packet.Packet.{Packet}
use Rattle.fx_model.specs.declared.packet.State.{State}
use Rattle.fx_model.specs.declared.chain.ChainRule.{ChainRule}
use Rattle.fx_model.specs.declared.view.View.{View}
use Rattle.fx_model.specs.Tables.{ChainName, Chains, forward}
use Rattle.fx_model.specs.ViewTables.{chains_of, tables_of}
use Rattle.fx_model.specs.Machine.{Test, Notes, Trace, holds, hops_and_reasons, nothing_noted, rules_found, rules_in}
use Rattle.fx_model.specs.Walk.{Onward, Ended, Through, over_rules, over_chain}
use Rattle.fx_laws.proofs.EntryLookups.{last_at, get-collected}
use Rattle.fx_walk.specs.PacketPaths.{first_walk}

-- a walk over chains that are looked up in any way
unfoldable pub over_look : {S : Type 0} → Notes S → Test → (ChainName → List ChainRule) → ℕ → ChainName → Onward S
over_look note test look zero c m s = Through m s
over_look note test look (suc n) c m s = over_rules note test (over_look note test look n) c 1 (look c) m s

pub same_look : {S : Type 0} (note : Notes S) (test : Test) (chains : Chains) (look : ChainName → List ChainRule) → ((q : ChainName) → rules_in chains q ≡ look q) → (n : ℕ) (c : ChainName) (m : ℕ) (s : S) → over_chain note test chains n c m s ≡ over_look note test look n c m s
unfolding over_chain over_look
same_look note test chains look h zero c m s = refl
same_look note test chains look h (suc n) c m s = λ i. over_rules note test (λ d k t. same_look note test chains look h n d k t i) c 1 (h c i) m s

-- what stands in these chains under a name
abbrev pub look_in : List (ChainName × List ChainRule) → ChainName → List ChainRule
look_in known q = rules_found (last_at (slice_cmp nat_cmp) known q None)

-- the walk of the first chain, over these chains
abbrev pub known_walk : View → List (ChainName × List ChainRule) → Packet → Ended Trace
known_walk v known a = over_look hops_and_reasons (holds v.sets a) (look_in known) 5 forward 0 (record { hops = []; reasons = nothing_noted })

-- it is the walk over the tables of a view that has these chains
pub walk_known : (v : View) (known : List (ChainName × List ChainRule)) → chains_of v ≡ known → (a : Packet) → first_walk (tables_of v) a [] ≡ known_walk v known a
walk_known v known is a = same_look hops_and_reasons (holds v.sets a) (tables_of v).chains (look_in known) looked 5 forward 0 (record { hops = []; reasons = nothing_noted })
  where
    looked : (q : ChainName) → rules_in (tables_of v).chains q ≡ look_in known q
    looked q = ap rules_found (get-collected nat_list_cmp_total (chains_of v) q ∙ ap (λ cs. last_at (slice_cmp nat_cmp) cs q None) is)

-- a TCP packet to port 443
abbrev pub packet : List ℕ → List ℕ → State → Packet
packet into out state = record {
  iface_in = into;
  iface_out = out;
  src = record { 0 = 0x0a000001 };
  dst = record { 0 = 0xc0000201 };
  proto = record { 0 = 6 };
  sport = 40000;
  dport = 443;
  icmp_kind = 0;
  icmp_code = 0;
  state = state;
}
