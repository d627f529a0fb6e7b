use Rattle.std.proofs.Common.{is_some, ap, ◌∙◌}
use Rattle.std.specs.FinMap as map
use Rattle.fx_sequencer.proofs.Viewing.{endpoints_now}
use Rattle.fx_sequencer.proofs.sequencer.SequencerViewSink.endpoint_gone.Goals as goal

pub take-requires : goal.take-requires
take-requires c = ap (λ v. is_some (map.get v.wanted.endpoints c.args.iface.now)) c.self.view_is ∙ c.requires

pub returns-clause-ok : goal.returns-clause-ok
returns-clause-ok c = endpoints_now c.self.inside.entries c.self.view_is (λ m. map.remove m c.args.iface.now) c.in_ok-take.ensures.ok
