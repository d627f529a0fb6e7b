use Rattle.serde_json.specs.View.{view}
use Rattle.fx_fields.specs.Paths.{text_of}
use Rattle.fx_lines.specs.Commands.{element_of}
use Rattle.fx_lines.proofs.Asking.{told_from-fault}
use Rattle.fx_lines.proofs.batches.element_at.Goals as goal

pub returns-in-Err : goal.returns-in-Err
returns-in-Err c = told_from-fault (text_of c.args.path.now) (element_of (view c.args.element.now)) c.in-Err.fault c.told_from.result c.told_from.ensures c.in-Err.ensures
