use Rattle.std.proofs.Common.{◌∙◌}
use Rattle.fx_model.proofs.Orders.{member_total}
use Rattle.fx_base.proofs.Entries.{got}
use Rattle.fx_model.proofs.member_flags.MemberFlags.get.Goals as goal

pub returns : goal.returns
returns c = got member_total _ _ c.self.view_is _ _ (c.copied.ensures ∙ c.get.ensures.value)
