-- What the agent answers to pulls and packets, each answer by its cause. Want of memory is the one free answer.
use Rattle.std.specs.Prelude.{◌≡◌, ◌⊎◌, ℕ, Bool, true, false, Option, Some, None}
use Rattle.fx_base.specs.Streams.{Rose}
use Rattle.fx_model.specs.declared.chain.Reason.{Reason}
use Rattle.fx_model.specs.declared.packet.Packet.{Packet}
use Rattle.fx_model.specs.declared.packet.Verdict.{Verdict}
use Rattle.fx_model.specs.declared.resources.Resources.{Resources}
use Rattle.fx_model.specs.Messages.{Change}
use Rattle.fx_model.specs.Policy.{Outcome}
use Rattle.fx_k8s.specs.Clusters.{IsConverted, IsPlain}
use Rattle.fx_k8s.specs.KubeVerdict.{Cluster, kubernetes_verdict}
use Rattle.fx_model.specs.declared.out.OutFault.{OutFault}
use Rattle.fx_model.specs.declared.out.OutFault.TheVariants as out
use Rattle.fx_agent.specs.declared.faults.PullFault.{PullFault}
use Rattle.fx_agent.specs.declared.faults.PullFault.TheVariants as pull
use Rattle.fx_agent.specs.declared.faults.Pulled.{Pulled}
use Rattle.fx_agent.specs.declared.faults.Pulled.TheVariants as pulled

-- ---- pulls

-- the next message was handed on, or there is none and the out stays
abbrev pub IsPulled : Option Change → (handed : Change → Type 0) → (same : Type 0) → Pulled → Type 0
IsPulled next handed same pulled.Sent = (c : Change) × ((next ≡ Some c) × handed c)
IsPulled next handed same pulled.Nothing = (next ≡ None) × same

-- whether the agent had failed; and at a write fault the out's count rose
abbrev pub IsPullCause : Bool → (before now : ℕ) → PullFault → Type 0
IsPullCause failed before now pull.Write = (failed ≡ false) × Rose before now
IsPullCause failed before now pull.Memory = failed ≡ false
IsPullCause failed before now pull.NeedsResync = failed ≡ true

-- all stays, or the agent has failed
abbrev pub PullLeaves : (same : Type 0) → (failed : Bool) → PullFault → Type 0
PullLeaves same failed pull.Write = same
PullLeaves same failed pull.Memory = failed ≡ true
PullLeaves same failed pull.NeedsResync = same

-- what the out took of the next message
abbrev pub OutLeaves : Option Change → (handed torn : Change → Type 0) → (same : Type 0) → PullFault → Type 0
OutLeaves next handed torn same pull.Write = (c : Change) × ((next ≡ Some c) × torn c)
OutLeaves next handed torn same pull.Memory = (c : Change) × ((next ≡ Some c) × (handed c ⊎ torn c))
OutLeaves next handed torn same pull.NeedsResync = same

-- the same where the agent had not failed
abbrev pub IsOutLeft : Option Change → (handed torn : Change → Type 0) → OutFault → Type 0
IsOutLeft next handed torn out.Write = (c : Change) × ((next ≡ Some c) × torn c)
IsOutLeft next handed torn out.Memory = (c : Change) × ((next ≡ Some c) × (handed c ⊎ torn c))

-- ---- packets

-- the verdict and the reasons are those of an outcome
pub record IsAnswer (outcome : Outcome) (verdict : Verdict) (egress ingress : Option Reason) : Type 0 where
  pub same_verdict : verdict ≡ outcome.verdict
  pub same_egress : egress ≡ outcome.egress
  pub same_ingress : ingress ≡ outcome.ingress

-- The verdict is Kubernetes' on each cluster that becomes the resources, by Kubernetes' API reference (`networking.k8s.io/v1`). Which
-- rule decides, that reference doesn't say.
abbrev pub IsKubernetesVerdict : Resources → Packet → Verdict → Type 0
IsKubernetesVerdict R a verdict = (K : Cluster) → IsConverted K R → IsPlain K → verdict ≡ kubernetes_verdict K a
