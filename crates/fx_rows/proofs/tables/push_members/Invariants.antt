use Rattle.std.proofs.Common.{◌≡◌, ◌++◌, map}
use Rattle.fx_base.specs.Set as set
use Rattle.fx_model.specs.TableTexts.{add_line}
use Rattle.fx_rows.proofs.tables.push_members.Given as goal

abbrev pub invariant-loop-member : goal.invariant-loop-member
invariant-loop-member l = l.lines.items ++ map (add_line l.name) l.member-iterator ≡ l.fn.lines.items ++ map (add_line l.name) (set.items l.members)
