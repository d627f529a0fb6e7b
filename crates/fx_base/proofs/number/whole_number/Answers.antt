use Rattle.fx_base.specs.Forms.{IsNumber}
use Rattle.fx_base.proofs.FormLemmas.{leaves_longer, leaves_here, means_number}
use Rattle.fx_base.proofs.number.whole_number.Goals as goal

pub returns-in-Ok : goal.returns-in-Ok
returns-in-Ok c = leaves_longer (IsNumber c.args.low c.args.high) c.args.text.now c.in-Ok.at c.in-Ok.ensures.ok.1 c.if-at-text.true

pub returns-in-Ok-2 : goal.returns-in-Ok-2
returns-in-Ok-2 c = means_number c.args.low c.args.high c.requires.range.1 c.args.text.now c.in-Ok.at c.in-Ok.field-0-0 c.if-at-text.false c.in-Ok.ensures.ok.0

pub returns-in-Err : goal.returns-in-Err
returns-in-Err c = leaves_here (IsNumber c.args.low c.args.high) c.args.text.now c.in-Err.at c.in-Err.ensures.err.1 c.in-Err.ensures.err.0
