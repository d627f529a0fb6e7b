use Rattle.std.specs.Cmp.Lexicographic.{nat_list_cmp_total}
use Rattle.fx_base.proofs.Entries.{walked}
use Rattle.fx_selector.proofs.labels.LabelsPartialEq.eq.Goals as goal

pub returns : goal.returns
returns c =
    let left = walked nat_list_cmp_total _ _ c.self.view_is c.self.invariant in
    let right = walked nat_list_cmp_total _ _ c.other.view_is c.other.invariant in
    rw (← left, ← right) c.eq.ensures
