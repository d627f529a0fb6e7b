-- Indexes: sets of keys of one kind under keys of another.
use Rattle.std.specs.Prelude.{ℕ, Bool, false, List, Option, Some, None}
use Rattle.std.specs.declared.cmp.Ordering.{Ordering}
use Rattle.std.specs.Ordering.{nat_cmp, eq_by_cmp}
use Rattle.std.specs.Cmp.Lexicographic.{slice_cmp}
use Rattle.std.specs.FinMap as map
use Rattle.fx_base.specs.Set as set

abbrev pub Grouped : {K L : Type 0} → (K → K → Ordering) → (L → L → Ordering) → Type 0
Grouped R Q = map.FinMap R (set.Set Q)

-- the key is in the set, if there is one
abbrev pub has_key : {L : Type 0} {Q : L → L → Ordering} → Option (set.Set Q) → L → Bool
has_key None k = false
has_key (Some keys) k = set.contains keys k

-- ---- texts, or names
abbrev pub same_text : List ℕ → List ℕ → Bool
same_text t u = eq_by_cmp (slice_cmp nat_cmp) t u

abbrev pub Texts : Type 0
Texts = set.Set (slice_cmp nat_cmp)
