use Rattle.std.proofs.Common.{sym}
use Rattle.fx_fields.proofs.NetLemmas.{is_range}
use Rattle.fx_fields.proofs.values.one_port.Goals as goal

pub returns : goal.returns
returns c = sym (is_range _)
