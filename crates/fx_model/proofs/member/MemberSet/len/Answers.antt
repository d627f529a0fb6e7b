use Rattle.fx_model.specs.contracts.member.MemberOrd.TheImpl.Laws.{total-law}
use Rattle.fx_base.proofs.Entries.{numbered}
use Rattle.fx_model.proofs.member.MemberSet.len.Goals as goal

pub returns : goal.returns
returns c = numbered total-law _ _ c.self.view_is c.self.invariant _ c.len.ensures.len
