-- What counts and a sink have of uses that stand, in whatever order.
use Rattle.std.specs.Prelude.{◌≡◌, ℕ, ◌==◌, Bool, not, ◌&&◌, List, ◌++◌}
use Rattle.std.specs.List.{AllByRecursion}
use Rattle.std.specs.FinMap as maps
use Rattle.fx_names.specs.Digests.{Digest}
use Rattle.fx_model.specs.Sets.{use_name}
use Rattle.fx_model.specs.Sinks.{Uses}
use Rattle.fx_model.specs.declared.set_use.SetUse.{SetUse}
use Rattle.fx_scanner.specs.Uses.{same_text, same_use, is_use, has_key, times, Counts, count_at}

abbrev pub has_name : Digest → List ℕ → SetUse → Bool
has_name dg name u = same_text name (use_name dg u)

-- the sink has this use at its name
abbrev pub is_told : Digest → Uses → SetUse → Bool
is_told dg uses u = is_use u (maps.get uses (use_name dg u))

-- another use has the name of this one
abbrev pub clashes : Digest → SetUse → SetUse → Bool
clashes dg u v = has_name dg (use_name dg u) v && not (same_use u v)

-- the counts are those of these uses
abbrev pub AreCounts : Counts → List SetUse → Type 0
AreCounts counts us = (key : List ℕ) → count_at counts key ≡ times (has_key key) us

-- the sink has these uses, and no others
pub record AreTold (dg : Digest) (uses : Uses) (us : List SetUse) : Type 0 where
  pub names : (name : List ℕ) → maps.contains_key uses name ≡ not (times (has_name dg name) us == 0)
  pub sets : times (λ u. not (is_told dg uses u)) us ≡ 0

pub record AreHeld (dg : Digest) (counts : Counts) (uses : Uses) (us : List SetUse) : Type 0 where
  pub counts_are : AreCounts counts us
  pub told_are : AreTold dg uses us

-- none of the first uses clashes with another of them, nor with one of the others
abbrev pub AreApartFrom : Digest → List SetUse → List SetUse → Type 0
AreApartFrom dg us others = AllByRecursion (λ u. times (clashes dg u) (us ++ others) ≡ 0) us
