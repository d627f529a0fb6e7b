use Rattle.std.proofs.Common.{ap, ◌∙◌}
use Rattle.fx_sequencer.specs.Flagged.{is_sent}
use Rattle.fx_sequencer.proofs.OneSet.{told_member, untold_member}
use Rattle.fx_sequencer.proofs.set_entry.SetEntry.was_told.Goals as goal

pub returns-then-not-self : goal.returns-then-not-self
returns-then-not-self c = untold_member c.self.invariant c.self.view_is c.args.member c.if-not-self.true

pub returns-in-Some : goal.returns-in-Some
returns-in-Some c = ap is_sent c.in-Some.ensures ∙ told_member c.self.invariant c.self.view_is c.args.member c.if-not-self.false

pub returns-in-None : goal.returns-in-None
returns-in-None c = ap is_sent c.in-None.ensures ∙ told_member c.self.invariant c.self.view_is c.args.member c.if-not-self.false
