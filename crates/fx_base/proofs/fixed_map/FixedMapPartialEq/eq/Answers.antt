use Rattle.std.specs.Cmp.Lexicographic.{nat_list_cmp_total}
use Rattle.fx_base.proofs.Entries.{walked}
use Rattle.fx_base.proofs.fixed_map.FixedMapPartialEq.eq.Goals as goal

pub returns : goal.returns
returns g c =
    rw (← walked nat_list_cmp_total _ _ c.self.view_is c.self.invariant.1, ← walked nat_list_cmp_total _ _ c.other.view_is c.other.invariant.1) c.eq.ensures
