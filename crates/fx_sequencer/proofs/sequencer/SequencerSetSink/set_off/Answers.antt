use Rattle.std.proofs.Common.{ap, ◌∙◌}
use Rattle.std.specs.FinMap as map
use Rattle.fx_sequencer.proofs.Viewing.{sets_now}
use Rattle.fx_sequencer.proofs.sequencer.SequencerSetSink.set_off.Goals as goal

pub take-requires : goal.take-requires
take-requires c = ap (λ v. map.get v.wanted.sets c.args.name) c.self.view_is ∙ c.requires

pub returns-clause-ok : goal.returns-clause-ok
returns-clause-ok c = sets_now c.self.inside.entries c.self.view_is (λ m. map.remove m c.args.name) c.in_ok-take.ensures.ok
