use Rattle.std.proofs.Common.{◌≡◌, ◌++◌, map, drop}
use Rattle.fx_dispatch.specs.declared.way.Way.TheVariants.{Own}
use Rattle.fx_dispatch.proofs.tree.push_own.Given as goal

abbrev pub invariant-loop-name : goal.invariant-loop-name
invariant-loop-name l = l.ways ++ map Own (drop l.name-index l.name-items) ≡ l.fn.ways ++ map Own l.names
