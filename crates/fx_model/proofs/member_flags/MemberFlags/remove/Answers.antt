use Rattle.fx_model.proofs.Orders.{member_total, exact_member}
use Rattle.fx_base.proofs.Entries.{got, removed}
use Rattle.fx_model.proofs.member_flags.MemberFlags.remove.Goals as goal

pub returns-clause-before : goal.returns-clause-before
returns-clause-before c = got member_total _ _ c.self.view_is _ _ c.remove.ensures.value

pub returns-clause-removed : goal.returns-clause-removed
returns-clause-removed c = removed member_total exact_member _ _ _ c.self.view_is _ c.remove.ensures.updates.0
