-- The host tables give each first packet of a process what the view and the resources say.
use Rattle.std.proofs.Common.{◌≡◌, Bool, true, false, List, ℕ, Option, refl, sym, ap, ◌∙◌, subst}
use Rattle.std.specs.FinMap as maps
use Rattle.fx_model.specs.declared.chain.Reason.{Reason}
use Rattle.fx_model.specs.declared.packet.Packet.{Packet}
use Rattle.fx_model.specs.declared.packet.Verdict.{Verdict}
use Rattle.fx_model.specs.Directions.{Direction}
use Rattle.fx_model.specs.Machine.{holds, iface_at}
use Rattle.fx_model.specs.Ranks.{IsRanked}
use Rattle.fx_model.specs.Tables.{ChainName, Chains, Tables, host_hook}
use Rattle.fx_model.specs.Views.{view_of}
use Rattle.fx_model.specs.Walk.{Ended, noted_in, over_chain}
use Rattle.fx_laws.proofs.ViewClosed.{view_of-closed}
use Rattle.fx_rules.specs.Rules.{direction_of}
use Rattle.fx_walk.specs.declared.outcome.Hop.{Hop}
use Rattle.fx_walk.specs.FromChain.{DecidesFrom, LastSeen, last_match, none_met}
use Rattle.fx_walk.specs.Serving.{IsServedApart}
use Rattle.fx_walk.proofs.FromRuns.{from_walk, last_of, run_from_has_one_end}
use Rattle.fx_walk.proofs.Servable.{served_apart}
use Rattle.fx_walk.proofs.Wanted.{formed_rules}
use Rattle.fx_hostep.specs.declared.packet.HostPacket.{HostPacket}
use Rattle.fx_hostep.specs.HostRuns.{IsAt, IsHostPacket, HasHooks, HostDecides, HostTablesAgree, HostPolicyIsKept, HostRunHasOneEnd, IsHostAnswer, ends_in_failsafe, why_by, why_of, view_host_verdict}
use Rattle.fx_hostep.specs.HostTables.{host_end, host_tables_of}
use Rattle.fx_hostep.specs.HostVerdict.{HostAnswer, HostWhy, host_verdict}
use Rattle.fx_hostep.proofs.HostLeads.{host-ranked}
use Rattle.fx_hostep.proofs.HostWalks.{Tells, hook_tells}
use Rattle.fx_hostep.proofs.HostWanted.{host_view_is_policy}

pub host_tables_agree : HostTablesAgree
host_tables_agree v f d a closed formed ports new =
    let tables : Tables = host_tables_of v f in
    let ranked : IsRanked tables.chains = host-ranked v f closed in
    let answer : HostAnswer = view_host_verdict v f d (iface_at (host_end d) a) a in
    let end : Ended LastSeen = over_chain last_match (holds v.sets a) tables.chains 5 (host_hook d) 0 (last_of none_met) in
    let tells : Tells end answer = hook_tells v f a formed ports ranked new d in
    record {
      reason = (noted_in end).reason;
      last = (noted_in end).last;
      run = subst (λ w. DecidesFrom tables (host_hook d) a w (noted_in end).reason (noted_in end).last) tells.verdict (from_walk tables a ranked (host_hook d) end refl);
      told = sym tells.why;
    }

pub host_policy_is_kept : HostPolicyIsKept
host_policy_is_kept dg R f d a servable ports new =
    let apart : IsServedApart dg R = served_apart dg R servable.formed servable.clash_free in
    subst (λ (x : HostAnswer). HostDecides (host_tables_of (view_of dg R) f) d a x.verdict x.why) (host_view_is_policy dg R f d a apart (iface_at (host_end d) a))
    (host_tables_agree (view_of dg R) f d a (view_of-closed dg R) (formed_rules dg R apart) ports new)

pub host_run_has_one_end : HostRunHasOneEnd
host_run_has_one_end tables d a v w e f x y =
    let ends = run_from_has_one_end tables (host_hook d) a v w x.reason y.reason x.last y.last x.run y.run in
    let same : why_of x.reason x.last ≡ why_of y.reason y.last = λ i. why_of (ends.1 i) (ends.2 i) in
    (ends.0, x.told ∙ same ∙ sym y.told)

-- ---- what code decides

iface_is : (inbound : Bool) (iface : List ℕ) (a : Packet) → IsAt inbound iface a → iface_at (host_end (direction_of inbound)) a ≡ iface
iface_is true iface a h = h.0
iface_is false iface a h = h.0

-- the hook of the packet's direction is there
pub hook_there : (chains : Chains) → HasHooks chains → (inbound : Bool) (start : ChainName) → start ≡ host_hook (direction_of inbound) → maps.contains_key chains start ≡ true
hook_there chains has true start e = ap (maps.contains_key chains) e ∙ has.inbound
hook_there chains has false start e = ap (maps.contains_key chains) e ∙ has.outbound

-- what the run from it tells, by its last rule
pub host_decided : (tables : Tables) (d : Direction) (a : Packet) (start : ChainName) → start ≡ host_hook d → (v : Verdict) (reason : Option Reason) (last : Option Hop) → DecidesFrom tables start a v reason last
    → (failsafe : Bool) → failsafe ≡ ends_in_failsafe last → (why : Option HostWhy) → why ≡ why_by failsafe reason → HostDecides tables d a v why
host_decided tables d a start is v reason last run failsafe by why told = record {
  reason = reason;
  last = last;
  run = subst (λ c. DecidesFrom tables c a v reason last) is run;
  told = told ∙ ap (λ b. why_by b reason) by;
}

-- what is decided on a first packet is what the policy reference says
pub is_host_answer : (tables : Tables) (p : HostPacket) (v : Verdict) (why : Option HostWhy) → IsHostPacket p → HostDecides tables (direction_of p.inbound) p.packet v why → IsHostAnswer tables p v why
is_host_answer tables p v why sides decides dg R f is servable ports new =
    let d : Direction = direction_of p.inbound in
    let goal_tables : Tables = host_tables_of (view_of dg R) f in
    let answer : HostAnswer = host_verdict R f d p.iface p.packet in
    host_run_has_one_end goal_tables d p.packet v answer.verdict why answer.why
    (subst (λ t. HostDecides t d p.packet v why) is decides)
    (subst (λ i. HostDecides goal_tables d p.packet (host_verdict R f d i p.packet).verdict (host_verdict R f d i p.packet).why) (iface_is p.inbound p.iface p.packet sides)
    (host_policy_is_kept dg R f d p.packet servable ports new))
