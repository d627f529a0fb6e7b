use Rattle.fx_model.proofs.Orders.{member_total}
use Rattle.fx_base.proofs.Entries.{counted}
use Rattle.fx_model.proofs.member_flags.MemberFlags.len.Goals as goal

pub returns : goal.returns
returns c = counted member_total _ _ c.self.view_is c.self.invariant _ c.len.ensures.len
