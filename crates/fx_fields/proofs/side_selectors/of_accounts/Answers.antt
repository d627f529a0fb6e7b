use Rattle.std.proofs.Common.{codes, refl, lit<}
use Rattle.fx_selector.proofs.Literals.{literal_key}
use Rattle.fx_fields.proofs.side_selectors.of_accounts.Goals as goal

pub one_of-requires-clause-key : goal.one_of-requires-clause-key
one_of-requires-clause-key c = literal_key (codes "projectcalico.org/serviceaccount") refl (lit< tt)
