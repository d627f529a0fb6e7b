use Rattle.std.proofs.Common.{◌≡◌, false}
use Rattle.fx_model.specs.Messages.{differences}
use Rattle.fx_model.specs.Views.{view_of}
use Rattle.felix_restore.proofs.sending.send_all.Given as goal

abbrev pub invariant-loop-agent : goal.invariant-loop-agent
invariant-loop-agent g l = record {
  ready : l.agent.failed ≡ false;
  resources : l.agent.resources ≡ l.fn.agent.resources;
}

abbrev pub decreases-loop-agent : goal.decreases-loop-agent
decreases-loop-agent g l = differences l.agent.sent (view_of g.R.DigestRule.digest_of l.agent.resources)
