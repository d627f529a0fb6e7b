-- What holds of all that the node holds, between calls.
use Rattle.fx_scanner.specs.declared.state.State.{State}
use Rattle.fx_scanner.specs.Scanned.{all_uses}
use Rattle.fx_scanner.specs.Told.{AreCounts}

-- each set is counted as often as the rules use it
abbrev pub IsKeptState : State → Type 0
IsKeptState s = AreCounts s.counts (all_uses s.inputs)
