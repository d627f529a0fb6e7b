use Rattle.std.specs.FinMap as map
use Rattle.fx_sequencer.proofs.Viewing.{profiles_now}
use Rattle.fx_sequencer.proofs.sequencer.SequencerViewSink.profile_put.Goals as goal

pub returns-clause-ok : goal.returns-clause-ok
returns-clause-ok c = profiles_now c.self.inside.entries c.self.view_is (λ m. map.insert m c.args.key c.args.profile) c.in_ok-put.ensures.ok
