use Rattle.std.proofs.Common.{ap, inr, sym}
use Rattle.fx_fields.specs.Paths.{text_of}
use Rattle.fx_fields.specs.Selectors.{placed}
use Rattle.fx_fields.proofs.SelectorTexts.{reads, refuses}
use Rattle.fx_fields.proofs.selectors.spelled.Goals as goal

pub returns-in-Ok : goal.returns-in-Ok
returns-in-Ok c = ap (placed (text_of c.args.path.now)) (reads c.args.text.now c.in-Ok.selector c.in-Ok.ensures.tree)

pub returns-in_ok-text-in-Some : goal.returns-in_ok-text-in-Some
returns-in_ok-text-in-Some c = rw c.in_ok-text-in-Some.ensures (inr (ap (placed (text_of c.args.path.now)) (refuses c.args.text.now c.in-Err.fault c.in-Some.at c.in-Err.ensures.fault (sym c.in-Some.ensures))))
