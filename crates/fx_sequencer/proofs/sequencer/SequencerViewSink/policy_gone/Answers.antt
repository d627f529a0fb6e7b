use Rattle.std.proofs.Common.{is_some, ap, ◌∙◌}
use Rattle.std.specs.FinMap as map
use Rattle.fx_sequencer.proofs.Viewing.{policies_now}
use Rattle.fx_sequencer.proofs.sequencer.SequencerViewSink.policy_gone.Goals as goal

pub take-requires : goal.take-requires
take-requires c = ap (λ v. is_some (map.get v.wanted.policies c.args.key)) c.self.view_is ∙ c.requires

pub returns-clause-ok : goal.returns-clause-ok
returns-clause-ok c = policies_now c.self.inside.entries c.self.view_is (λ m. map.remove m c.args.key) c.in_ok-take.ensures.ok
