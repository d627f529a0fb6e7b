use Rattle.serde_json.specs.View.{view}
use Rattle.fx_lines.proofs.Asking.{kept}
use Rattle.fx_host_lines.specs.Commands.{by_name}
use Rattle.fx_host_lines.specs.Formed.{IsReadHost}
use Rattle.fx_host_lines.proofs.ReadForms.{by_name-read}
use Rattle.fx_host_lines.proofs.reading.HostCommandLineCommand.read_member.Goals as goal

pub returns-clause-read : goal.returns-clause-read
returns-clause-read c =
    let d = view c.args.value.now in
    kept IsReadHost (by_name d) c.command_in.result c.command_in.ensures (by_name-read d)
