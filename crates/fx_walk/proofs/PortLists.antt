-- Lists of ports that are cut apart, and what they say together.
use Rattle.std.proofs.Common.{◌≡◌, ℕ, ◌-◌, Bool, true, false, ◌||◌, nat_le, List, [], ◌∷◌, ◌++◌, map, refl, sym, ap, ◌∙◌, arith}
use Rattle.std.proofs.lemmas.List.Folds.{list_any-append}
use Rattle.std.specs.List.{list_any}
use Rattle.fx_base.specs.declared.net.PortRange.{PortRange}
use Rattle.fx_model.specs.declared.view_rule.ViewPort.{ViewPort}
use Rattle.fx_model.specs.declared.view_rule.ViewPort.TheVariants.{Range, Named}
use Rattle.fx_model.specs.Rendering.{slots_of, onto_first, lists_from, port_lists, ranges_of, names_of, PortChoice, Listed, InSet, port_choices}

any_onto : (t : PortRange → Bool) (r : PortRange) (cs : List (List PortRange)) → list_any (λ c. list_any t c) (onto_first r cs) ≡ (t r || list_any (λ c. list_any t c) cs)
any_onto t r [] = grind arith
any_onto t r (c ∷ cs) = grind arith

any_from : (t : PortRange → Bool) (room : ℕ) (rs : List PortRange) → list_any (λ c. list_any t c) (lists_from room rs) ≡ list_any t rs
any_from t room [] = refl
any_from t room (r ∷ rs) = by_room (nat_le (slots_of r) room) (any_from t (room - slots_of r) rs) (any_from t (15 - slots_of r) rs)
  where
    by_room : (b : Bool) → list_any (λ c. list_any t c) (lists_from (room - slots_of r) rs) ≡ list_any t rs → list_any (λ c. list_any t c) (lists_from (15 - slots_of r) rs) ≡ list_any t rs → list_any (λ c. list_any t c) (elim b [ true ↦ onto_first r (lists_from (room - slots_of r) rs) | false ↦ [] ∷ onto_first r (lists_from (15 - slots_of r) rs) ]) ≡ (t r || list_any t rs)
    by_room true h k = any_onto t r (lists_from (room - slots_of r) rs) ∙ ap (λ u. t r || u) h
    by_room false h k = any_onto t r (lists_from (15 - slots_of r) rs) ∙ ap (λ u. t r || u) k

-- some list has a range that passes just where some range passes
pub any_list : (t : PortRange → Bool) (rs : List PortRange) → list_any (λ c. list_any t c) (port_lists rs) ≡ list_any t rs
any_list t [] = refl
any_list t (r ∷ rs) = any_from t 15 (r ∷ rs)

-- ---- what one match can ask for

abbrev pub choice_says : (List PortRange → Bool) → (List ℕ → Bool) → PortChoice → Bool
choice_says listed named (Listed c) = listed c
choice_says listed named (InSet name) = named name

any_map : {X Y : Type 0} (f : X → Y) (t : Y → Bool) (xs : List X) → list_any t (map f xs) ≡ list_any (λ x. t (f x)) xs
any_map f t [] = refl
any_map f t (x ∷ xs) = ap (λ u. t (f x) || u) (any_map f t xs)

pub any_choice : (listed : List PortRange → Bool) (named : List ℕ → Bool) (ps : List ViewPort) → list_any (choice_says listed named) (port_choices ps) ≡ (list_any listed (port_lists (ranges_of ps)) || list_any named (names_of ps))
any_choice listed named ps =
    list_any-append (choice_says listed named) (map Listed (port_lists (ranges_of ps))) (map InSet (names_of ps))
    ∙ ap (λ t. t || list_any (choice_says listed named) (map InSet (names_of ps))) (any_map Listed (choice_says listed named) (port_lists (ranges_of ps)))
    ∙ ap (λ t. list_any listed (port_lists (ranges_of ps)) || t) (any_map InSet (choice_says listed named) (names_of ps))

-- a port that is a range, or in a set
abbrev pub port_says : (PortRange → Bool) → (List ℕ → Bool) → ViewPort → Bool
port_says ranged named (Range r) = ranged r
port_says ranged named (Named name) = named name

or_behind : (x y z : Bool) → (y || (x || z)) ≡ (x || (y || z))
or_behind x y z = grind arith

or_assoc : (x y z : Bool) → ((x || y) || z) ≡ (x || (y || z))
or_assoc true y z = refl
or_assoc false y z = refl

pub any_port : (ranged : PortRange → Bool) (named : List ℕ → Bool) (ps : List ViewPort) → list_any (port_says ranged named) ps ≡ (list_any ranged (ranges_of ps) || list_any named (names_of ps))
any_port ranged named [] = refl
any_port ranged named (Range r ∷ ps) = ap (λ t. ranged r || t) (any_port ranged named ps) ∙ sym (or_assoc (ranged r) (list_any ranged (ranges_of ps)) (list_any named (names_of ps)))
any_port ranged named (Named name ∷ ps) = ap (λ t. named name || t) (any_port ranged named ps) ∙ or_behind (list_any ranged (ranges_of ps)) (named name) (list_any named (names_of ps))

-- ---- ports give choices

onto_not_nil : (r : PortRange) (cs : List (List PortRange)) → onto_first r cs ≡ [] → ⊥
onto_not_nil r [] e = cc
onto_not_nil r (c ∷ cs) e = cc

from_not_nil : (room : ℕ) (r : PortRange) (rs : List PortRange) → lists_from room (r ∷ rs) ≡ [] → ⊥
from_not_nil room r rs = by_room (nat_le (slots_of r) room)
  where
    by_room : (b : Bool) → ◌≡◌ {A = List (List PortRange)} (elim b [ true ↦ onto_first r (lists_from (room - slots_of r) rs) | false ↦ [] ∷ onto_first r (lists_from (15 - slots_of r) rs) ]) [] → ⊥
    by_room true e = onto_not_nil r (lists_from (room - slots_of r) rs) e
    by_room false e = cc

left_nil : (xs : List (List PortRange)) (ys : List PortChoice) → map Listed xs ++ ys ≡ [] → xs ≡ []
left_nil [] ys e = refl
left_nil (x ∷ xs) ys e = cc

right_not_nil : (xs : List (List PortRange)) (name : List ℕ) (names : List (List ℕ)) → map Listed xs ++ map InSet (name ∷ names) ≡ [] → ⊥
right_not_nil [] name names e = cc
right_not_nil (x ∷ xs) name names e = cc

pub choices_not_nil : (p : ViewPort) (ps : List ViewPort) → port_choices (p ∷ ps) ≡ [] → ⊥
choices_not_nil (Range r) ps e = from_not_nil 15 r (ranges_of ps) (left_nil (port_lists (r ∷ ranges_of ps)) (map InSet (names_of ps)) e)
choices_not_nil (Named name) ps e = right_not_nil (port_lists (ranges_of ps)) name (names_of ps) e
