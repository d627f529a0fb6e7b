use Rattle.std.proofs.Common.{ap, ◌∙◌}
use Rattle.std.specs.FinMap as map
use Rattle.fx_base.specs.Set as set
use Rattle.fx_sequencer.proofs.Viewing.{sets_now}
use Rattle.fx_sequencer.proofs.sequencer.SequencerSetSink.set_on.Goals as goal

pub put-requires : goal.put-requires
put-requires c = ap (λ v. map.contains_key v.wanted.sets c.args.name) c.self.view_is ∙ c.requires

pub returns-clause-ok : goal.returns-clause-ok
returns-clause-ok c = sets_now c.self.inside.entries c.self.view_is (λ m. map.insert m c.args.name set.empty) c.in_ok-put.ensures.ok
