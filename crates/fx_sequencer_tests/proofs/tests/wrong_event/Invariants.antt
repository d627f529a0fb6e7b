use Rattle.std.proofs.Common.{◌≡◌}
use Rattle.fx_sequencer_tests.proofs.tests.wrong_event.Given as goal

-- one view is wanted
abbrev pub invariant-loop-number : goal.invariant-loop-number
invariant-loop-number l = l.sequencer.wanted ≡ l.wanted
