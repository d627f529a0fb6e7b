use Rattle.std.proofs.Common.{◌∙◌}
use Rattle.fx_services.proofs.EmptyValues.{no_values}
use Rattle.fx_services.proofs.services.are_none.Goals as goal

pub returns : goal.returns
returns c = c.is_empty.ensures ∙ no_values c.args.values.now
