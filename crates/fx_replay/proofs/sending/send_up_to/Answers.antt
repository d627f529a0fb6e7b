use Rattle.std.proofs.Common.{None, sym}
use Rattle.fx_laws.proofs.Flushes.{flush-ends}
use Rattle.fx_model.specs.Messages.{flush}
use Rattle.fx_model.specs.Views.{view_of}
use Rattle.fx_replay.proofs.SendingLemmas.{on_ok_trans}
use Rattle.fx_replay.proofs.sending.send_up_to.Goals as goal

pub returns-in-Some-clause-count : goal.returns-in-Some-clause-count
returns-in-Some-clause-count g c = rw c.in-Some.is c.send_some.ensures.count

pub returns-in-Some-clause-ends : goal.returns-in-Some-clause-ends
returns-in-Some-clause-ends g c = rw c.in-Some.is c.send_some.ensures.ends

pub returns-in-Some-clause-writes : goal.returns-in-Some-clause-writes
returns-in-Some-clause-writes g c = rw c.in-Some.is c.send_some.ensures.writes

pub returns-in-None-clause-count : goal.returns-in-None-clause-count
returns-in-None-clause-count g c = rw c.in-None.is c.send.ensures.count

pub returns-in-None-clause-ends : goal.returns-in-None-clause-ends
returns-in-None-clause-ends g c =
    let agent = c.args.agent.now in
    let wanted = view_of g.R.DigestRule.digest_of agent.resources in
    rw c.in-None.is (on_ok_trans c.send.result c.send.new.agent.sent wanted (flush None agent.sent wanted).ends c.send.ensures.reached (sym (flush-ends agent.sent wanted)))

pub returns-in-None-clause-writes : goal.returns-in-None-clause-writes
returns-in-None-clause-writes g c = rw c.in-None.is c.send.ensures.writes
