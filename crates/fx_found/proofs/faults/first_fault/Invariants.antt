use Rattle.std.proofs.Common.{◌≡◌, drop}
use Rattle.fx_found.specs.RuleFaults.{first_fault}
use Rattle.fx_found.proofs.faults.first_fault.Given as goal

abbrev pub invariant-loop-number : goal.invariant-loop-number
invariant-loop-number l = first_fault l.number l.tables (drop l.number l.rows) ≡ first_fault 0 l.tables l.rows
