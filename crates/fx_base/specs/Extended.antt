-- A finite map with more entries put in.
use Rattle.std.specs.Prelude.{List, [], ◌∷◌, Option, Some, None, if◌then◌else◌}
use Rattle.std.specs.declared.cmp.Ordering.{Ordering}
use Rattle.std.specs.FinMap as map

-- these entries are put in one after another, as by Rust's `extend`
abbrev pub extended : {K X : Type 0} {R : K → K → Ordering} → map.FinMap R X → List (K × X) → map.FinMap R X
extended m [] = m
extended m (e ∷ es) = extended (map.insert m e.0 e.1) es

-- these entries are put in one after another where their keys are absent, as by Rust's `entry(..).or_insert(..)`
abbrev pub filled : {K X : Type 0} {R : K → K → Ordering} → map.FinMap R X → List (K × X) → map.FinMap R X
filled m [] = m
filled m (e ∷ es) = filled (if map.contains_key m e.0 then m else map.insert m e.0 e.1) es

-- the map of these entries; of those with one key the last
abbrev pub collected : {K X : Type 0} {R : K → K → Ordering} → List (K × X) → map.FinMap R X
collected es = extended map.empty es

-- the value at a key, or nothing there
abbrev pub put_or_removed : {K X : Type 0} {R : K → K → Ordering} → map.FinMap R X → K → Option X → map.FinMap R X
put_or_removed m k (Some x) = map.insert m k x
put_or_removed m k None = map.remove m k

-- the map m, but at k as n is there
abbrev pub taken_from : {K X : Type 0} {R : K → K → Ordering} → map.FinMap R X → map.FinMap R X → K → map.FinMap R X
taken_from m n k = put_or_removed m k (map.get n k)
