use Rattle.std.proofs.Common.{ℕ, List, [], sym, ap, subst}
use Rattle.std.specs.Prelude.{◌≢◌}
use Rattle.fx_replay.specs.Output as replays
use Rattle.felix_services.specs.Output.{start}
use Rattle.felix_services.proofs.Kept.{asked_named}
use Rattle.felix_services.proofs.services.ServicesProgram.begin.Goals as goal

pub returns-clause-begun : goal.returns-clause-begun
returns-clause-begun g c = λ j. record (start g.R.DigestRule.digest_of c.args.node) {
  replay = c.in_ok-replay.ensures.state j;
  places = c.new-places.ensures.lists j;
  flushed = c.new-places.ensures.flushed j;
}

pub returns-clause-ready : goal.returns-clause-ready
returns-clause-ready g c = record {
  unfailed = c.in_ok-replay.ensures.ready;
  named = subst (λ (n : List ℕ). n ≢ []) (sym (ap (λ (s : replays.State). s.resources.node) c.in_ok-replay.ensures.state)) (asked_named c.args.node c.requires);
}
