use Rattle.std.specs.Prelude.{IfSome}
use Rattle.serde_json.specs.View.{view}
use Rattle.fx_lines.specs.Formed.{IsReadUpdate}
use Rattle.fx_lines.specs.Commands.{update_in}
use Rattle.fx_lines.proofs.ReadForms.{update_in-read}
use Rattle.fx_lines.proofs.Asking.{kept}
use Rattle.fx_lines.proofs.commands.update_command.Goals as goal

pub returns-clause-read : goal.returns-clause-read
returns-clause-read c =
    let d = view c.args.value.now in
    kept (λ found. IfSome found IsReadUpdate) (update_in d) c.update_by_name.result c.update_by_name.ensures (update_in-read d)
