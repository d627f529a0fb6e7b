use Rattle.std.proofs.Common.{sym}
use Rattle.std.proofs.lemmas.Result.{err_from_is_err_and}
use Rattle.fx_model.proofs.Orders.{member_total, exact_member}
use Rattle.fx_base.proofs.Entries.{got, inserted}
use Rattle.fx_model.proofs.member_flags.MemberFlags.insert.Goals as goal

pub returns-clause-before : goal.returns-clause-before
returns-clause-before c = got member_total _ _ c.self.view_is _ _ c.in_ok-insert.ensures.old

pub returns-clause-ok : goal.returns-clause-ok
returns-clause-ok c = inserted member_total exact_member _ _ _ c.self.view_is _ _ c.in_ok-insert.ensures.updates.0

pub returns-in_err-insert-clause-absent : goal.returns-in_err-insert-clause-absent
returns-in_err-insert-clause-absent c =
    let p = err_from_is_err_and c.from_residual.result c.from_residual.ensures.1 in
    rw p.1 (sym (got member_total _ _ c.self.view_is _ _ (sym c.in_err-insert.ensures.absent)))
