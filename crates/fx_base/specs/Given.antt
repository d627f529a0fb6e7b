-- Whether a list holds anything, as a field of a resource that may be left out or left empty.
use Rattle.std.specs.Prelude.{List, [], ◌∷◌, Bool, true, false}

abbrev pub is_given : {A : Type 0} → List A → Bool
is_given [] = false
is_given (x ∷ xs) = true
