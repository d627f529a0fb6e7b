-- What an agent holds stays as it is said after an update; and what it decides.
use Rattle.std.proofs.Common.{◌≡◌, Bool, true, false, List, None, Option, sym, ap, ◌∙◌, subst}
use Rattle.std.specs.List.{list_all}
use Rattle.fx_names.specs.Digests.{Digest}
use Rattle.fx_model.specs.declared.chain.Reason.{Reason}
use Rattle.fx_model.specs.declared.packet.Packet.{Packet}
use Rattle.fx_model.specs.declared.packet.State.TheVariants.{New}
use Rattle.fx_model.specs.declared.packet.Verdict.{Verdict}
use Rattle.fx_model.specs.declared.resources.Resources.{Resources}
use Rattle.fx_model.specs.declared.resources.Update.{Update}
use Rattle.fx_model.specs.Batches.{after_all, clash_all}
use Rattle.fx_model.specs.Claims.{clash}
use Rattle.fx_model.specs.Formed.{is_formed, puts_workload_interface}
use Rattle.fx_model.specs.Policy.{packet_verdict}
use Rattle.fx_model.specs.Resources.{after}
use Rattle.fx_model.specs.Tables.{Tables}
use Rattle.fx_model.specs.ViewPolicy.{IsServable, IsPolicyAnswer}
use Rattle.fx_model.specs.ViewTables.{tables_of}
use Rattle.fx_model.specs.Views.{view_of}
use Rattle.fx_laws.proofs.BatchClaims.{batch_apart}
use Rattle.fx_laws.proofs.BatchSteps.{all-formed, all-on_workloads}
use Rattle.fx_laws.proofs.ClaimsApart.{clash_free_after}
use Rattle.fx_laws.proofs.FormedLemmas.{are_formed-after, have_workload_interfaces-after}
use Rattle.fx_driver.specs.Driven.{HasFirst}
use Rattle.fx_driver.specs.declared.driver.Driver.{Driver}
use Rattle.fx_driver.specs.Drives.{Drives}
use Rattle.fx_driver.specs.Stepping.{IsDrivable}
use Rattle.fx_engine.specs.Answers.{UpdateLeaves}
use Rattle.fx_engine.specs.States.{EngineState}
use Rattle.fx_engine.specs.declared.fault.UpdateFault.{UpdateFault}
use Rattle.fx_engine.specs.declared.fault.UpdateFault.TheVariants as update
use Rattle.fx_walk.proofs.Families.{first_there}
use Rattle.fx_kube_laws.proofs.Kept.{kubernetes_verdict_is_kept}
use Rattle.fx_agent.specs.Answers.{IsAnswer, IsKubernetesVerdict}
use Rattle.fx_agent.specs.Sound.{IsAgent, IsDriven}

-- ---- updates

pub servable-after : (dg : Digest) (R : Resources) → IsServable dg R → (u : Update) → is_formed u ≡ true → puts_workload_interface R.node u ≡ true → clash dg R u ≡ None → IsServable dg (after R u)
servable-after dg R was u formed on_workloads free = record {
  formed = are_formed-after R was.formed u formed;
  clash_free = clash_free_after dg R u formed was.clash_free free;
  on_workloads = have_workload_interfaces-after R was.on_workloads u on_workloads;
}

pub servable-after_all : (dg : Digest) (R : Resources) → IsServable dg R → (us : List Update) → list_all is_formed us ≡ true → list_all (puts_workload_interface R.node) us ≡ true → clash_all dg R us ≡ None → IsServable dg (after_all R us)
servable-after_all dg R was us formed on_workloads free = record {
  formed = all-formed R us was.formed formed;
  clash_free = batch_apart dg R us formed was.clash_free free;
  on_workloads = all-on_workloads R us was.on_workloads on_workloads;
}

-- other resources that can be served, of which nothing was sent yet
pub driven-anew : (dg : Digest) (e now : EngineState) (d : Driver) → IsDriven dg e d → (R : Resources) → IsServable dg R → now.resources ≡ R → now.sent ≡ e.sent → IsDriven dg now d
driven-anew dg e now d was R servable made sent = record {
  servable = subst (IsServable dg) (sym made) servable;
  drives = subst (Drives d) (sym sent) was.drives;
  drivable = subst IsDrivable (sym sent) was.drivable;
}

-- ---- whole agents

-- one whose driver holds what was sent
pub agent-driven : (dg : Digest) (e : EngineState) (d : Driver) → IsDriven dg e d → IsAgent dg e d
agent-driven dg e d is = record {
  first = subst (λ (t : Tables). HasFirst t.chains) (sym is.drives.tables) (first_there e.sent);
  sound = λ ready. is;
}

no_longer : {A : Type 0} (failed : Bool) → failed ≡ true → failed ≡ false → A
no_longer failed was ready = cc

-- one whose memory has run out
pub agent-failed : (dg : Digest) (e : EngineState) (d : Driver) → HasFirst d.tables.chains → e.failed ≡ true → IsAgent dg e d
agent-failed dg e d first failed = record { first = first; sound = λ ready. no_longer e.failed failed ready }

-- one whose engine refused an update, or has failed in it
pub agent-left : (dg : Digest) (e now : EngineState) (d : Driver) → IsAgent dg e d → (fault : UpdateFault) → UpdateLeaves (now ≡ e) now.failed fault → IsAgent dg now d
agent-left dg e now d was (update.Taken name holder) same = subst (λ (s : EngineState). IsAgent dg s d) (sym same) was
agent-left dg e now d was update.Memory failed = agent-failed dg now d was.first failed
agent-left dg e now d was update.NeedsResync same = subst (λ (s : EngineState). IsAgent dg s d) (sym same) was

-- ---- packets

pub sound-tables : (dg : Digest) (e : EngineState) (d : Driver) → IsDriven dg e d → e.sent ≡ view_of dg e.resources → d.tables ≡ tables_of (view_of dg e.resources)
sound-tables dg e d is same = is.drives.tables ∙ ap tables_of same

-- the policy reference's answer, where all was sent
pub sound-policy : (dg : Digest) (e : EngineState) (d : Driver) → IsDriven dg e d → e.sent ≡ view_of dg e.resources
    → (a : Packet) → a.state ≡ New → (v : Verdict) (egress ingress : Option Reason) → IsPolicyAnswer d.tables a v egress ingress → IsAnswer (packet_verdict e.resources a) v egress ingress
sound-policy dg e d is same a new v egress ingress answer =
    let known = answer dg e.resources (sound-tables dg e d is same) is.servable new in
    record { same_verdict = known.0; same_egress = known.1; same_ingress = known.2 }

-- and Kubernetes' verdict, where the resources are a cluster's
pub sound-kubernetes : (dg : Digest) (e : EngineState) (d : Driver) → IsDriven dg e d → e.sent ≡ view_of dg e.resources
    → (a : Packet) → a.state ≡ New → (v : Verdict) (egress ingress : Option Reason) → IsPolicyAnswer d.tables a v egress ingress → IsKubernetesVerdict e.resources a v
sound-kubernetes dg e d is same a new v egress ingress answer K converted plain =
    let known = sound-policy dg e d is same a new v egress ingress answer in
    known.same_verdict ∙ kubernetes_verdict_is_kept K e.resources a converted plain
