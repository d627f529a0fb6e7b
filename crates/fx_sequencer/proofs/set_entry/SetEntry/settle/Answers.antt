use Rattle.fx_sequencer.proofs.OneSet.{settled_flagged, settled_sides}
use Rattle.fx_sequencer.proofs.set_entry.SetEntry.settle.Goals as goal

pub settle-requires-clause-held : goal.settle-requires-clause-held
settle-requires-clause-held c = c.self.invariant.held

pub settle-requires-clause-adds : goal.settle-requires-clause-adds
settle-requires-clause-adds c = c.self.invariant.adds

pub settle-requires-clause-goes : goal.settle-requires-clause-goes
settle-requires-clause-goes c = c.self.invariant.goes

pub invariant_of-self : goal.invariant_of-self
invariant_of-self c =
    settled_flagged c.self.invariant c.self.view_is c.requires c.settle.new.members c.settle.new.added c.settle.new.gone c.settle.ensures.held c.settle.ensures.same
    c.settle.ensures.none_added c.settle.ensures.none_gone c.settle.ensures.wanted

pub returns : goal.returns
returns c =
    settled_sides c.self.invariant c.self.view_is c.requires c.settle.new.members c.settle.new.added c.settle.new.gone c.settle.ensures.held c.settle.ensures.same
    c.settle.ensures.none_added c.settle.ensures.none_gone c.settle.ensures.wanted
