use Rattle.std.proofs.Common.{codes, refl, lit<}
use Rattle.fx_selector.proofs.Literals.{literal_key}
use Rattle.fx_k8s.proofs.selectors.push_selected.Goals as goal

pub has_key-requires : goal.has_key-requires
has_key-requires c = literal_key (codes "projectcalico.org/namespace") refl (lit< tt)
