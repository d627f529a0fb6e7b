use Rattle.std.proofs.Common.{codes, refl, lit<}
use Rattle.fx_selector.proofs.Literals.{literal_key, literal_string}
use Rattle.fx_k8s.proofs.selectors.orchestrated.Goals as goal

pub equal-requires-clause-key : goal.equal-requires-clause-key
equal-requires-clause-key c = literal_key (codes "projectcalico.org/orchestrator") refl (lit< tt)

pub equal-requires-clause-value : goal.equal-requires-clause-value
equal-requires-clause-value c = literal_string (codes "k8s") refl
