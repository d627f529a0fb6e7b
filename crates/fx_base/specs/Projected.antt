-- A finite map by a part of its values. Where a value has no such part, its key is left out, as by Rust's `filter_map`.
use Rattle.std.specs.Prelude.{List, Option}
use Rattle.std.specs.declared.cmp.Ordering.{Ordering}
use Rattle.std.specs.Option.{option_map}
use Rattle.std.specs.List.{filter_map}
use Rattle.std.specs.FinMap as map

-- each entry with the part of its value
abbrev pub projected_entries : {K X Y : Type 0} → (X → Option Y) → List (K × X) → List (K × Y)
projected_entries part es = filter_map (λ e. option_map (λ y. (e.0, y)) (part e.1)) es

abbrev pub projected : {K X Y : Type 0} {R : K → K → Ordering} → (X → Option Y) → map.FinMap R X → map.FinMap R Y
projected part m = map.from_sorted (projected_entries part (map.entries m))
