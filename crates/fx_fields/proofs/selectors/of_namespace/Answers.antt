use Rattle.std.proofs.Common.{codes, refl, lit<}
use Rattle.fx_selector.proofs.Literals.{literal_key}
use Rattle.fx_fields.proofs.selectors.of_namespace.Goals as goal

pub equal-requires-clause-key : goal.equal-requires-clause-key
equal-requires-clause-key c = literal_key (codes "projectcalico.org/namespace") refl (lit< tt)
