use Rattle.serde_json.specs.View.{view}
use Rattle.fx_lines.proofs.Asking.{kept}
use Rattle.fx_service_lines.specs.Commands.{by_name}
use Rattle.fx_service_lines.specs.Formed.{IsReadServices}
use Rattle.fx_service_lines.proofs.ReadForms.{by_name-read}
use Rattle.fx_service_lines.proofs.reading.ServicesCommandLineCommand.read_member.Goals as goal

pub returns-clause-read : goal.returns-clause-read
returns-clause-read c =
    let d = view c.args.value.now in
    kept IsReadServices (by_name d) c.by_name.result c.by_name.ensures (by_name-read d)
