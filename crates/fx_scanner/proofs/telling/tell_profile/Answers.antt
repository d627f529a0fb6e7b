use Rattle.fx_scanner.proofs.telling.tell_profile.Goals as goal

pub returns-clause-uses : goal.returns-clause-uses
returns-clause-uses g c = g.met.S.UseSink.kept _ _ c.in_ok-profile_put.ensures.others
