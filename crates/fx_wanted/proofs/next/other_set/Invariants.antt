use Rattle.std.proofs.Common.{◌≡◌}
use Rattle.std.specs.Prelude.{find}
use Rattle.fx_model.specs.Messages.{is_other, first_other}
use Rattle.fx_model.specs.contracts.member.MemberSetPartialEq.TheImpl as members_eq
use Rattle.fx_wanted.proofs.next.other_set.Given as goal

-- what is found in the rest is what is found in all
abbrev pub invariant-loop-name : goal.invariant-loop-name
invariant-loop-name l = find (is_other members_eq.eq-value.it l.sent) l.name-iterator ≡ first_other members_eq.eq-value.it l.sent l.wanted
