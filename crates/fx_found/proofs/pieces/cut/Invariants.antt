use Rattle.std.proofs.Common.{◌≡◌, ◌++◌, take, drop}
use Rattle.fx_found.specs.Pieces.{piece, behind}
use Rattle.fx_found.proofs.pieces.cut.Given as goal

-- what was looked through is before the mark
abbrev pub invariant-loop-at : goal.invariant-loop-at
invariant-loop-at l = record {
  first : take l.at l.text ++ piece l.mark (drop l.at l.text) ≡ piece l.mark l.text;
  later : behind l.mark (drop l.at l.text) ≡ behind l.mark l.text;
}
