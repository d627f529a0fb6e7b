use Rattle.std.specs.Cmp.Lexicographic.{nat_list_cmp_total}
use Rattle.fx_base.proofs.Entries.{cloned}
use Rattle.fx_base.proofs.fixed_map.FixedMapClone.clone.Goals as goal

pub returns : goal.returns
returns g c = record { cases = cloned nat_list_cmp_total _ g.V.Clone.is_clone (λ x y h. h) g.met.V.Exact.copies _ _ _ c.self.view_is c.in_ok-clone.ensures.cases }
