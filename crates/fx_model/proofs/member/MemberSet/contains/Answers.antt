use Rattle.fx_model.specs.contracts.member.MemberOrd.TheImpl.Laws.{total-law}
use Rattle.fx_base.proofs.Entries.{holds}
use Rattle.fx_model.proofs.member.MemberSet.contains.Goals as goal

pub returns : goal.returns
returns c = holds total-law _ _ c.self.view_is _ _ c.contains.ensures
