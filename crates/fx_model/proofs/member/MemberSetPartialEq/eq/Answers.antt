use Rattle.fx_model.specs.contracts.member.MemberOrd.TheImpl.Laws.{total-law}
use Rattle.fx_base.proofs.Entries.{listed}
use Rattle.fx_model.proofs.member.MemberSetPartialEq.eq.Goals as goal

pub returns : goal.returns
returns c =
    rw (← listed total-law _ _ c.self.view_is c.self.invariant, ← listed total-law _ _ c.other.view_is c.other.invariant) c.eq.ensures
