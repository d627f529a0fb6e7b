use Rattle.std.proofs.Common.{◌≡◌}
use Rattle.std.specs.Prelude.{find}
use Rattle.fx_model.specs.Messages.{is_absent, first_absent}
use Rattle.fx_wanted.proofs.next.absent_name.Given as goal

-- what is found in the rest is what is found in all
abbrev pub invariant-loop-key : goal.invariant-loop-key
invariant-loop-key g l = find (is_absent l.held) l.key-iterator ≡ first_absent l.held l.names
