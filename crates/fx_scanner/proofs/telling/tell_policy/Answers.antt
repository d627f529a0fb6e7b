use Rattle.fx_scanner.proofs.telling.tell_policy.Goals as goal

pub returns-clause-uses : goal.returns-clause-uses
returns-clause-uses g c = g.met.S.UseSink.kept _ _ c.in_ok-policy_put.ensures.others
