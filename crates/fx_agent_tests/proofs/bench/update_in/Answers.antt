use Rattle.std.proofs.Common.{sym, ap, ◌∙◌}
use Rattle.fx_lines.specs.declared.commands.Command.{Command}
use Rattle.fx_lines.specs.Formed.{puts_on_workloads}
use Rattle.fx_agent_tests.proofs.bench.update_in.Goals as goal

pub returns-in-Update-clause-interface : goal.returns-in-Update-clause-interface
returns-in-Update-clause-interface c = λ node.
    ap (λ (x : Command). puts_on_workloads node x) (sym c.in-Update.is) ∙ c.in_ok-update.ensures.read.on_workloads node
