-- What is asked of a packet line where the resources are a cluster's: its verdict is the one that Kubernetes' API reference
-- (`networking.k8s.io/v1`) gives, where each accepted update and batch was flushed.
use Rattle.std.specs.Prelude.{◌≡◌, ℕ, List, Option, Ok}
use Rattle.std.specs.List.{concat}
use Rattle.fx_model.specs.declared.chain.Reason.{Reason}
use Rattle.fx_model.specs.declared.packet.Packet.{Packet}
use Rattle.fx_model.specs.declared.packet.State.TheVariants.{New}
use Rattle.fx_model.specs.PacketTexts.{packet_lines}
use Rattle.fx_model.specs.Tables.{ChainName}
use Rattle.fx_model.specs.Views.{view_of}
use Rattle.fx_names.specs.Digests.{Digest}
use Rattle.fx_k8s.specs.Clusters.{IsConverted, IsPlain}
use Rattle.fx_k8s.specs.KubeVerdict.{Cluster, kubernetes_verdict}
use Rattle.fx_lines.specs.declared.commands.Command.TheVariants as command
use Rattle.fx_replay.specs.Output.{State, start, next, answer_of, text}
use Rattle.fx_run.specs.Run.{state_after}

-- the lines end with Kubernetes' verdict; which rule decides, Kubernetes doesn't say
pub record TellsKubernetes (s : State) (K : Cluster) (line : List ℕ) (a : Packet) : Type 0 where
  pub path : List (ChainName × ℕ)
  pub egress : Option Reason
  pub ingress : Option Reason
  pub output : text s line ≡ concat (packet_lines path a.iface_in a.iface_out egress ingress (kubernetes_verdict K a))

-- after any lines, a line with a first packet is answered so, where the resources are those of a cluster and the sent view is theirs
abbrev pub KeepsKubernetes : Digest → List ℕ → Type 0
KeepsKubernetes dg node =
    (lines : List (List ℕ)) (line : List ℕ) (a : Packet) (K : Cluster) → let s = state_after next (start dg node) lines in
    answer_of s line ≡ Ok (command.Packet a) → a.state ≡ New → s.sent ≡ view_of s.digest s.resources → IsConverted K s.resources → IsPlain K
    → TellsKubernetes s K line a
