-- The kinds of the node's inputs: profiles by their names, and this node's endpoints with the profiles that each lists.
use Rattle.std.specs.Prelude.{ℕ, List}
use Rattle.std.specs.Ordering.{nat_cmp}
use Rattle.std.specs.Cmp.Lexicographic.{slice_cmp}
use Rattle.std.specs.FinMap as map
use Rattle.fx_model.specs.declared.resources.Profile.{Profile}
use Rattle.fx_model.specs.contracts.ids.ItemKeyOrd.TheImpl.{cmp-value}

abbrev pub Named : Type 0
Named = map.FinMap (slice_cmp nat_cmp) Profile

-- with the names of their profiles, in listed order
abbrev pub Endpoints : Type 0
Endpoints = map.FinMap cmp-value.it (List (List ℕ))
