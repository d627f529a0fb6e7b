use Rattle.std.proofs.Common.{◌∙◌}
use Rattle.fx_services.proofs.EmptyValues.{no_text}
use Rattle.fx_services.proofs.services.is_no_text.Goals as goal

pub returns : goal.returns
returns c = c.is_empty.ensures ∙ no_text c.args.bytes.now
