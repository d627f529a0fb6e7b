use Rattle.std.proofs.Common.{◌∙◌}
use Rattle.fx_model.proofs.Orders.{member_total}
use Rattle.fx_base.proofs.Entries.{walked}
use Rattle.fx_model.proofs.member_flags.MemberFlags.iter.Goals as goal

pub returns : goal.returns
returns c = c.iter.ensures.rest ∙ walked member_total _ _ c.self.view_is c.self.invariant
