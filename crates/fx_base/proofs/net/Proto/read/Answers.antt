use Rattle.fx_base.specs.TextValues.{protocol_of}
use Rattle.fx_base.specs.Protocols.{IsProtocol}
use Rattle.fx_base.proofs.ValueLemmas.{protocol_computes, means_computed, leaves_computed}
use Rattle.fx_base.proofs.net.Proto.read.Goals as goal

pub returns-in-Ok-clause-value : goal.returns-in-Ok-clause-value
returns-in-Ok-clause-value c = means_computed IsProtocol protocol_of protocol_computes c.args.text.now _ c.in-Ok.ensures

pub returns-in-Err-clause-none : goal.returns-in-Err-clause-none
returns-in-Err-clause-none c = leaves_computed IsProtocol protocol_of protocol_computes c.args.text.now _ c.in-Err.ensures
