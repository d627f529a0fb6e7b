use Rattle.std.proofs.Common.{sym, ap}
use Rattle.fx_model.specs.declared.resources.Resources.{Resources}
use Rattle.felix_restore.specs.Output.{start}
use Rattle.felix_restore.proofs.restore.Restore.new.Goals as goal

pub returns-clause-state : goal.returns-clause-state
returns-clause-state g c = λ j. record (start g.R.DigestRule.digest_of c.args.node) { resources = c.in_ok-agent.ensures.resources j }

pub returns-clause-ready : goal.returns-clause-ready
returns-clause-ready g c = record {
  sound = c.in_ok-agent.ensures.ready;
  mark = sym (ap (λ (R : Resources). R.in_sync) c.in_ok-agent.ensures.resources);
}
