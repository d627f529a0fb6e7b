use Rattle.std.specs.Prelude.{IfSome}
use Rattle.serde_json.specs.View.{view}
use Rattle.fx_lines.specs.Formed.{IsReadBatch}
use Rattle.fx_lines.specs.Commands.{batch_in}
use Rattle.fx_lines.proofs.ReadForms.{batch_in-read}
use Rattle.fx_lines.proofs.Asking.{kept}
use Rattle.fx_lines.proofs.batches.batch_command.Goals as goal

pub returns-clause-read : goal.returns-clause-read
returns-clause-read c =
    let d = view c.args.value.now in
    kept (λ found. IfSome found IsReadBatch) (batch_in d) c.batch_by_name.result c.batch_by_name.ensures (batch_in-read d)
