use Rattle.fx_kube_laws.proofs.Kept.{kubernetes_verdict_is_kept}
use Rattle.fx_kube_laws.proofs.laws.kubernetes_verdict_is_kept.Goals as goal

pub returns : goal.returns
returns c = kubernetes_verdict_is_kept
