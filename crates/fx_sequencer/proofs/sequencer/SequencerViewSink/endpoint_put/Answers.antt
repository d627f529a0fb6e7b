use Rattle.std.specs.FinMap as map
use Rattle.fx_sequencer.proofs.Viewing.{endpoints_now}
use Rattle.fx_sequencer.proofs.sequencer.SequencerViewSink.endpoint_put.Goals as goal

pub returns-clause-ok : goal.returns-clause-ok
returns-clause-ok c = endpoints_now c.self.inside.entries c.self.view_is (λ m. map.insert m c.args.iface.now c.args.endpoint) c.in_ok-put.ensures.ok
