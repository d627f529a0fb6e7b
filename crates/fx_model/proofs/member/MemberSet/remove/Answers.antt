use Rattle.fx_model.specs.contracts.member.MemberOrd.TheImpl.Laws.{total-law}
use Rattle.fx_model.proofs.Orders.{exact_member}
use Rattle.fx_base.proofs.Entries.{holds, taken_out}
use Rattle.fx_model.proofs.member.MemberSet.remove.Goals as goal

pub returns-clause-found : goal.returns-clause-found
returns-clause-found c = holds total-law _ _ c.self.view_is _ _ c.remove.ensures.test

pub returns-clause-removed : goal.returns-clause-removed
returns-clause-removed c = taken_out total-law exact_member _ _ _ c.self.view_is _ c.remove.ensures.updates.0
