-- Labels that are put one over the other, from the last parent to the first.
use Rattle.std.proofs.Common.{◌≡◌, ℕ, List, [], ◌∷◌, ◌++◌, Option, option_map, refl, ap}
use Rattle.std.specs.FinMap as maps
use Rattle.fx_selector.specs.Truth.{LabelMap}
use Rattle.fx_model.specs.Labels.{over_others, inherited}
use Rattle.fx_model.specs.declared.resources.Profile.{Profile}
use Rattle.fx_model.specs.declared.resources.Resources.{Resources}

abbrev pub parents_in : Resources → List ℕ → Option LabelMap
parents_in R name = option_map (λ (p : Profile). p.labels) (maps.get R.profiles name)

-- what these parents give, over what stands already
abbrev pub inherited_over : (List ℕ → Option LabelMap) → List (List ℕ) → LabelMap → LabelMap
inherited_over parents [] m = m
inherited_over parents (name ∷ names) m = over_others (parents name) (inherited_over parents names m)

pub over_nothing : (parents : List ℕ → Option LabelMap) (names : List (List ℕ)) → inherited_over parents names maps.empty ≡ inherited parents names
over_nothing parents [] = refl
over_nothing parents (name ∷ names) = ap (over_others (parents name)) (over_nothing parents names)

-- the last one is put first
pub over_last : (parents : List ℕ → Option LabelMap) (names : List (List ℕ)) (name : List ℕ) (m : LabelMap) → inherited_over parents (names ++ name ∷ []) m ≡ inherited_over parents names (over_others (parents name) m)
over_last parents [] name m = refl
over_last parents (first ∷ names) name m = ap (over_others (parents first)) (over_last parents names name m)

pub ruleset inheriting = (over_nothing, over_last)
