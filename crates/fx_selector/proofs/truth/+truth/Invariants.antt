use Rattle.std.proofs.Common.{◌≡◌, drop}
use Rattle.fx_selector.specs.Nodes.{trees_of}
use Rattle.fx_selector.specs.Truth.{hold_all, hold_some}
use Rattle.fx_selector.proofs.truth.+truth.Given as goal

abbrev pub invariant-all_match-loop-part : goal.invariant-all_match-loop-part
invariant-all_match-loop-part l = hold_all (trees_of (drop l.part-index l.parts)) l.labels ≡ hold_all (trees_of l.parts) l.labels

abbrev pub invariant-some_match-loop-part : goal.invariant-some_match-loop-part
invariant-some_match-loop-part l = hold_some (trees_of (drop l.part-index l.parts)) l.labels ≡ hold_some (trees_of l.parts) l.labels
