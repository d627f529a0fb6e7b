use Rattle.fx_replay.specs.Output.{start}
use Rattle.fx_replay.proofs.replay.Replay.new.Goals as goal

pub returns-clause-state : goal.returns-clause-state
returns-clause-state g c = λ j. record (start g.R.DigestRule.digest_of c.args.node) {
  resources = c.in_ok-agent.ensures.resources j;
  sent = c.in_ok-agent.ensures.sent j;
}
