use Rattle.std.proofs.Common.{◌≡◌}
use Rattle.std.specs.Prelude.{find}
use Rattle.fx_model.specs.Messages.{is_changed, first_changed}
use Rattle.fx_wanted.proofs.next.changed_text.Given as goal

-- what is found in the rest is what is found in all
abbrev pub invariant-loop-key : goal.invariant-loop-key
invariant-loop-key g l = find (is_changed g.V.PartialEq.eq l.sent) l.key-iterator ≡ first_changed g.V.PartialEq.eq l.sent l.wanted
