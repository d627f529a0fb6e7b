-- What names share, one name after another.
use Rattle.std.specs.Prelude.{ℕ, List, Option, Some, None}
use Rattle.fx_model.specs.Tree.{common_prefix}

-- what a name shares with what the names before it share
abbrev pub narrowed : Option (List ℕ) → List ℕ → List ℕ
narrowed None name = name
narrowed (Some before) name = common_prefix before name
