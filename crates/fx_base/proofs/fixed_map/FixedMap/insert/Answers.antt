use Rattle.std.proofs.Common.{sym}
use Rattle.std.proofs.lemmas.Result.{err_from_is_err_and}
use Rattle.std.specs.Cmp.Lexicographic.{nat_list_cmp_total}
use Rattle.std.specs.FinMap.{nat_cmp-IsAntisymmetric, slice_cmp-IsAntisymmetric}
use Rattle.fx_base.proofs.Entries.{got, inserted}
use Rattle.fx_base.proofs.fixed_map.FixedMap.insert.Goals as goal

pub returns-clause-before : goal.returns-clause-before
returns-clause-before g c = got nat_list_cmp_total _ _ c.self.view_is _ _ c.in_ok-insert.ensures.old

pub returns-clause-ok : goal.returns-clause-ok
returns-clause-ok g c = inserted nat_list_cmp_total (slice_cmp-IsAntisymmetric nat_cmp-IsAntisymmetric) _ _ _ c.self.view_is _ _ c.in_ok-insert.ensures.updates.0

pub returns-in_err-insert-clause-absent : goal.returns-in_err-insert-clause-absent
returns-in_err-insert-clause-absent g c =
    let p = err_from_is_err_and c.from_residual.result c.from_residual.ensures.1 in
    rw p.1 (sym (got nat_list_cmp_total _ _ c.self.view_is _ _ (sym c.in_err-insert.ensures.absent)))
