-- Worked examples: what selectors need, and which labels meet it.
use Rattle.std.proofs.Common.{◌≡◌, ℕ, true, false, cond, List, [], ◌∷◌, Option, Some, None, refl, ap, ◌∙◌}
use Rattle.std.specs.Prelude.{codes}
use Rattle.std.specs.Cmp.Lexicographic.{slice_cmp, nat_list_cmp_total}
use Rattle.std.specs.Ordering.{nat_cmp, eq_by_cmp}
use Rattle.std.specs.FinMap as map
use Rattle.fx_selector.specs.Tree.{all, global, has, equal, unequal, within, outside, starts, negated, each, some, many}
use Rattle.fx_selector.specs.Truth.{LabelMap}
use Rattle.fx_selector.specs.Needs.{Need, needed, has_one, meets}

abbrev k : List ℕ
k = codes "k"

abbrev role : List ℕ
role = codes "role"

abbrev a : List ℕ
a = codes "a"

abbrev b : List ℕ
b = codes "b"

-- a key alone, and a key with values
abbrev key_alone : List ℕ → Option Need
key_alone key = Some (record { key = key; values = None })

abbrev valued : List ℕ → List (List ℕ) → Option Need
valued key values = Some (record { key = key; values = Some values })

-- k == "a", has(k), k starts with "a"
equal_needs_its_value : needed (equal k a) ≡ valued k (a ∷ [])
equal_needs_its_value = refl

has_needs_its_key : needed (has k) ≡ key_alone k
has_needs_its_key = refl

starts_needs_its_key : needed (starts k a) ≡ key_alone k
starts_needs_its_key = refl

-- has(k) && role in {"a", "b"}: the later operand has values
later_values_count : needed (each (many (has k ∷ within role (a ∷ b ∷ []) ∷ []))) ≡ valued role (a ∷ b ∷ [])
later_values_count = refl

-- k == "a" && role == "b": the first of two with values
first_values_count : needed (each (many (equal k a ∷ equal role b ∷ []))) ≡ valued k (a ∷ [])
first_values_count = refl

-- !has(role) && has(k) && has(role): no values, so the first operand that needs something
first_need_counts : needed (each (many (negated (has role) ∷ has k ∷ has role ∷ []))) ≡ key_alone k
first_need_counts = refl

-- has(k) && (has(role) && role == "a"): an And within an And
nested_values_count : needed (each (many (has k ∷ each (many (has role ∷ equal role a ∷ [])) ∷ []))) ≡ valued role (a ∷ [])
nested_values_count = refl

-- !(k == "a"), k != "a", k not in {"a"}: an absent label passes
negation_needs_nothing : needed (negated (equal k a)) ≡ None
negation_needs_nothing = refl

unequal_needs_nothing : needed (unequal k a) ≡ None
unequal_needs_nothing = refl

outside_needs_nothing : needed (outside k (a ∷ [])) ≡ None
outside_needs_nothing = refl

-- k == "a" || k == "b", all(), global(), !has(k) && k != "a"
or_needs_nothing : needed (some (many (equal k a ∷ equal k b ∷ []))) ≡ None
or_needs_nothing = refl

all_needs_nothing : needed all ≡ None
all_needs_nothing = refl

global_needs_nothing : needed global ≡ None
global_needs_nothing = refl

and_of_none_needs_nothing : needed (each (many (negated (has k) ∷ unequal k a ∷ []))) ≡ None
and_of_none_needs_nothing = refl

-- ---- which labels meet them: k = "b"
abbrev labels : LabelMap
labels = map.insert map.empty k b

labelled : (q : List ℕ) → map.get labels q ≡ cond (eq_by_cmp (slice_cmp nat_cmp) q k) (Some b) None
labelled q = map.get-insert nat_list_cmp_total map.empty k b q ∙ ap (cond (eq_by_cmp (slice_cmp nat_cmp) q k) (Some b)) (map.get-empty (slice_cmp nat_cmp) q)

value_is_met : meets (needed (within k (a ∷ b ∷ []))) labels ≡ true
value_is_met = ap (has_one (Some (a ∷ b ∷ []))) (labelled k)

other_value_is_not_met : meets (needed (equal k a)) labels ≡ false
other_value_is_not_met = ap (has_one (Some (a ∷ []))) (labelled k)

absent_key_is_not_met : meets (needed (has role)) labels ≡ false
absent_key_is_not_met = ap (has_one None) (labelled role)

-- k in {} needs a value of no set, which no labels have
empty_set_needs_a_value : needed (within k []) ≡ valued k []
empty_set_needs_a_value = refl

empty_set_is_not_met : meets (needed (within k [])) labels ≡ false
empty_set_is_not_met = ap (has_one (Some [])) (labelled k)

-- k starts with "a" is met, although it doesn't hold
key_is_met : meets (needed (starts k a)) labels ≡ true
key_is_met = ap (has_one None) (labelled k)

nothing_needed_is_met : meets (needed (negated (has k))) labels ≡ true
nothing_needed_is_met = refl
