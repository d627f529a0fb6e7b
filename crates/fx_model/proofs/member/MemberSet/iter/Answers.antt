use Rattle.std.proofs.Common.{◌∙◌}
use Rattle.fx_model.specs.contracts.member.MemberOrd.TheImpl.Laws.{total-law}
use Rattle.fx_base.proofs.Entries.{listed}
use Rattle.fx_model.proofs.member.MemberSet.iter.Goals as goal

pub returns : goal.returns
returns c = c.iter.ensures.rest ∙ listed total-law _ _ c.self.view_is c.self.invariant
