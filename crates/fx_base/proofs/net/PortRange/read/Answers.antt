use Rattle.fx_base.specs.TextValues.{ports_of}
use Rattle.fx_base.specs.PortTexts.{IsPortRange}
use Rattle.fx_base.proofs.ValueLemmas.{ports_computes, means_computed, leaves_computed}
use Rattle.fx_base.proofs.net.PortRange.read.Goals as goal

pub returns-in-Ok-clause-value : goal.returns-in-Ok-clause-value
returns-in-Ok-clause-value c = means_computed IsPortRange ports_of ports_computes c.args.text.now _ c.in-Ok.ensures

pub returns-in-Err-clause-none : goal.returns-in-Err-clause-none
returns-in-Err-clause-none c = leaves_computed IsPortRange ports_of ports_computes c.args.text.now _ c.in-Err.ensures
