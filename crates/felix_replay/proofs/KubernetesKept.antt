-- A packet's line ends with Kubernetes' verdict where the resources are a cluster's.
use Rattle.std.proofs.Common.{ℕ, List, ap, ◌∙◌}
use Rattle.std.specs.List.{concat}
use Rattle.fx_model.specs.declared.packet.Verdict.{Verdict}
use Rattle.fx_model.specs.PacketTexts.{packet_lines}
use Rattle.fx_model.specs.Policy.{packet_verdict}
use Rattle.fx_names.specs.Digests.{Digest}
use Rattle.fx_kube_laws.proofs.Kept.{kubernetes_verdict_is_kept}
use Rattle.fx_replay.specs.Output.{start, next}
use Rattle.fx_run.specs.Run.{state_after}
use Rattle.felix_replay.specs.KubernetesLines.{KeepsKubernetes}
use Rattle.felix_replay.proofs.Policing.{keeps_policy}

pub keeps_kubernetes : (dg : Digest) (node : List ℕ) → KeepsKubernetes dg node
keeps_kubernetes dg node lines line a K said new flushed converted plain =
    let s = state_after next (start dg node) lines in
    let told = keeps_policy dg node lines line a said new flushed in
    let answer = packet_verdict s.resources a in
    record {
      path = told.path;
      egress = answer.egress;
      ingress = answer.ingress;
      output =
          told.output
          ∙ ap (λ (v : Verdict). concat (packet_lines told.path a.iface_in a.iface_out answer.egress answer.ingress v)) (kubernetes_verdict_is_kept K s.resources a converted plain);
    }
