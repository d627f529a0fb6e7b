use Rattle.std.proofs.Common.{◌≡◌, ◌+◌, ◌*◌, drop}
use Rattle.fx_model.specs.Machine.{holds}
use Rattle.fx_model.specs.Walk.{over_rules}
use Rattle.fx_walk.specs.WalkEnds.{chain_walk, reasons_of, Follows}
use Rattle.fx_walk.proofs.walk.+walk.Given as goal

abbrev pub decreases-follow : goal.decreases-follow
decreases-follow g l = 4 * l.depth + 1

abbrev pub decreases-walk_rule : goal.decreases-walk_rule
decreases-walk_rule g l = 4 * l.depth + 2

abbrev pub decreases-walk_rules : goal.decreases-walk_rules
decreases-walk_rules g l = 4 * l.depth + 3

abbrev pub decreases-walk_chain : goal.decreases-walk_chain
decreases-walk_chain g l = 4 * l.depth

-- the walk of all rules is that of the rules that are left, and what is noted follows on what was
abbrev pub invariant-walk_rules-loop-i : goal.invariant-walk_rules-loop-i
invariant-walk_rules-loop-i g l = record {
  left : over_rules g.N.Notes.note (holds l.tables.sets l.packet) (chain_walk g.N.Notes.note l.tables l.packet l.depth) l.chain 1 l.rules l.before.mark (g.N.Notes.noted l.fn.notes (reasons_of l.before)) ≡ over_rules g.N.Notes.note (holds l.tables.sets l.packet) (chain_walk g.N.Notes.note l.tables l.packet l.depth) l.chain (l.i + 1) (drop l.i l.rules) l.seen.mark (g.N.Notes.noted l.notes (reasons_of l.seen));
  grown : Follows g.N.Notes.State g.N.Notes.note (g.N.Notes.noted l.fn.notes (reasons_of l.before)) (g.N.Notes.noted l.notes (reasons_of l.seen));
}
