-- Finite maps with more entries put in.
use Rattle.std.proofs.Common.{◌≡◌, List, [], ◌∷◌, ◌++◌, refl}
use Rattle.std.specs.declared.cmp.Ordering.{Ordering}
use Rattle.std.specs.FinMap as map
use Rattle.fx_base.specs.Extended.{extended}

-- first these and then those
pub extended-append : {K X : Type 0} {R : K → K → Ordering} (m : map.FinMap R X) (es fs : List (K × X)) → extended m (es ++ fs) ≡ extended (extended m es) fs
extended-append m [] fs = refl
extended-append m (e ∷ es) fs = extended-append (map.insert m e.0 e.1) es fs
