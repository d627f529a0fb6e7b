use Rattle.fx_replay.proofs.replay.Replay.sent_tables.Goals as goal

pub returns-clause-sent : goal.returns-clause-sent
returns-clause-sent g c = c.tables.ensures.sent c.requires.ready

pub returns-clause-closed : goal.returns-clause-closed
returns-clause-closed g c = (c.tables.ensures.drivable c.requires.ready).closed
