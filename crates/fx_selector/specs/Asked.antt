-- What a node asks of the label at its key.
use Rattle.std.specs.Prelude.{ℕ, Bool, true, false, not, List, Option, is_some, nat_eq}
use Rattle.std.specs.Cmp.Lexicographic.{pointwise}
use Rattle.std.specs.List.{starts_with, ends_with}
use Rattle.std.specs.Option.{option_map_or}
use Rattle.fx_selector.specs.Truth.{has_part, is_among}
use Rattle.fx_selector.specs.declared.node.Test.{Test}
use Rattle.fx_selector.specs.declared.node.Test.TheVariants.{Present, Equal, Unequal, Within, Outside, Contains, Starts, Ends}

abbrev pub is_answered : Test → Option (List ℕ) → Bool
is_answered Present found = is_some found
is_answered (Equal v) found = option_map_or (λ x. pointwise nat_eq x v) found false
is_answered (Unequal v) found = option_map_or (λ x. not (pointwise nat_eq x v)) found true
is_answered (Within vs) found = option_map_or (is_among vs.items) found false
is_answered (Outside vs) found = option_map_or (λ x. not (is_among vs.items x)) found true
is_answered (Contains v) found = option_map_or (has_part v) found false
is_answered (Starts v) found = option_map_or (λ x. starts_with nat_eq x v) found false
is_answered (Ends v) found = option_map_or (λ x. ends_with nat_eq x v) found false
