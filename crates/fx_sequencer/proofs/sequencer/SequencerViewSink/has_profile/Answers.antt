use Rattle.std.proofs.Common.{◌≡◌, ◌↔◌, IsTrue, Some, subst}
use Rattle.std.specs.FinMap as map
use Rattle.fx_sequencer.specs.declared.sides.Sides.{Sides}
use Rattle.fx_sequencer.proofs.sequencer.SequencerViewSink.has_profile.Goals as goal

pub returns : goal.returns
returns c =
    subst (λ (v : Sides). IsTrue c.wants.result ↔ (map.get v.wanted.profiles c.args.key.now ≡ Some c.args.profile.now))
    c.self.view_is c.wants.ensures
