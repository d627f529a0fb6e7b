-- Which entries of a map may have changed since a start.
use Rattle.std.specs.Prelude.{◌≡◌, cond, None, is_some}
use Rattle.std.specs.declared.cmp.Ordering.{Ordering}
use Rattle.std.specs.FinMap as map

-- the keys that were touched
abbrev pub Keys : {K : Type 0} → (K → K → Ordering) → Type 0
Keys R = map.FinMap R (Unit {0})

-- what wasn't touched is as it was
pub record IsTouched {K X : Type 0} {R : K → K → Ordering} (touched : Keys R) (then now : map.FinMap R X) : Type 0 where
  pub at : (k : K) → map.get touched k ≡ None → map.get then k ≡ map.get now k

-- without what was touched
pub record IsWithout {K X : Type 0} {R : K → K → Ordering} (touched : Keys R) (whole part : map.FinMap R X) : Type 0 where
  pub at : (k : K) → map.get part k ≡ cond (is_some (map.get touched k)) None (map.get whole k)
