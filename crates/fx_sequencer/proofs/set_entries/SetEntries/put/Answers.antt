use Rattle.std.proofs.Common.{sym, ◌∙◌}
use Rattle.fx_base.specs.Set as set
use Rattle.fx_base.proofs.Cases.{absent_value}
use Rattle.fx_sequencer.proofs.SetKeeping.{again_pending, fresh_pending, refused_set}
use Rattle.fx_sequencer.proofs.SetMaps.{wanted_as, side_maps, fresh_maps}
use Rattle.fx_sequencer.proofs.set_entries.SetEntries.put.Goals as goal

pub turn_on-differs-requires-clause-there : goal.turn_on-differs-requires-clause-there
turn_on-differs-requires-clause-there c = sym c.contains_key.ensures ∙ c.if-contains_key.true

pub turn_on-differs-requires-clause-unwanted : goal.turn_on-differs-requires-clause-unwanted
turn_on-differs-requires-clause-unwanted c = sym (wanted_as c.self.invariant c.self.view_is c.args.name.now) ∙ absent_value _ c.requires

pub invariant_of-self-then-contains_key : goal.invariant_of-self-then-contains_key
invariant_of-self-then-contains_key c =
    again_pending c.self.invariant c.args.name.now set.empty c.turn_on-differs.ensures.held (sym c.contains_key.ensures ∙ c.if-contains_key.true)
    (sym (wanted_as c.self.invariant c.self.view_is c.args.name.now) ∙ absent_value _ c.requires) c.turn_on-differs.result c.turn_on-differs.ensures.differs c.in_ok-insert.ensures.ok c.keep_if.ensures c.remove.ensures.removed

pub returns-then-contains_key-clause-ok : goal.returns-then-contains_key-clause-ok
returns-then-contains_key-clause-ok c = side_maps c.self.invariant c.self.view_is c.args.name.now set.empty c.turn_on-differs.ensures.held

pub invariant_of-self-in-Ok : goal.invariant_of-self-in-Ok
invariant_of-self-in-Ok c = fresh_pending c.self.invariant c.args.name.now (absent_value _ (sym c.contains_key.ensures ∙ c.if-contains_key.false)) c.in-Ok.ensures.ok c.in_ok-insert-2.ensures.ok

pub returns-in-Ok-clause-ok : goal.returns-in-Ok-clause-ok
returns-in-Ok-clause-ok c = fresh_maps c.self.invariant c.self.view_is c.args.name.now (absent_value _ (sym c.contains_key.ensures ∙ c.if-contains_key.false)) c.in-Ok.ensures.ok

pub invariant_of-self-in-Err : goal.invariant_of-self-in-Err
invariant_of-self-in-Err c = refused_set c.self.invariant c.args.name.now (absent_value _ (sym c.contains_key.ensures ∙ c.if-contains_key.false)) c.in_ok-insert-2.ensures.ok c.remove-in-Err.ensures.removed c.in-Err.ensures.err
