use Rattle.std.proofs.Common.{◌∙◌, ap, not, refl}
use Rattle.fx_model.specs.contracts.member.MemberOrd.TheImpl.Laws.{total-law}
use Rattle.fx_model.proofs.Orders.{exact_member}
use Rattle.fx_base.proofs.Entries.{holds, put_in}
use Rattle.fx_model.proofs.member.MemberSet.insert.Goals as goal

pub returns-clause-absent : goal.returns-clause-absent
returns-clause-absent c = c.in_ok-insert.ensures.added ∙ ap not (holds total-law _ _ c.self.view_is _ _ refl)

pub returns-clause-ok : goal.returns-clause-ok
returns-clause-ok c = put_in total-law exact_member _ _ _ c.self.view_is _ c.in_ok-insert.ensures.updates.0
