use Rattle.fx_model.specs.SameIds.{copies_key}
use Rattle.felix_services.proofs.noting.own_note.Goals as goal

pub returns : goal.returns
returns c = λ i. record { key = copies_key _ _ c.in_ok-own.ensures.cases i; lists = c.args.lists }
