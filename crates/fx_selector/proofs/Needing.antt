-- Labels on which a selector holds meet what it needs.
use Rattle.std.proofs.Common.{◌≡◌, ℕ, Bool, true, false, cond, ◌||◌, nat_eq, List, [], ◌∷◌, Option, Some, None, is_some, refl, ap, ◌∙◌}
use Rattle.std.specs.Option.{option_or, option_map_or}
use Rattle.std.specs.FinMap as map
use Rattle.std.specs.Cmp.Lexicographic.{pointwise, nat_list_eq_equiv}
use Rattle.fx_base.specs.Same.{both_pass}
use Rattle.fx_selector.specs.Tree.{Tree, Trees, all, global, has, equal, unequal, within, outside, contains, starts, ends, negated, each, some, none, more}
use Rattle.fx_selector.specs.Truth.{LabelMap, holds, hold_all}
use Rattle.fx_selector.specs.Needs.{Need, needed, needed_with_values, needed_first, valued_or, has_values, has_one, meets}

there : (f : List ℕ → Bool) (o : Option (List ℕ)) → option_map_or f o false ≡ true → has_one None o ≡ true
there f None h = h
there f (Some x) h = refl

present : (o : Option (List ℕ)) → is_some o ≡ true → has_one None o ≡ true
present None h = h
present (Some x) h = refl

among : (vs : List (List ℕ)) (f : List ℕ → Bool) (o : Option (List ℕ)) → ((x : List ℕ) → f x ≡ true → has_one (Some vs) (Some x) ≡ true) → option_map_or f o false ≡ true → has_one (Some vs) o ≡ true
among vs f None g h = h
among vs f (Some x) g h = g x h

or_meets : (m : LabelMap) (n o : Option Need) → meets n m ≡ true → meets o m ≡ true → meets (option_or n o) m ≡ true
or_meets m None o g h = h
or_meets m (Some n) o g h = g

valued_meets : (m : LabelMap) (n o : Option Need) → meets n m ≡ true → meets o m ≡ true → meets (valued_or n o) m ≡ true
valued_meets m n o g h = elim (has_values n) as (λ b. meets (cond b n o) m ≡ true) [ true ↦ g | false ↦ h ]

same_among : (x v : List ℕ) (b c : Bool) → c ≡ b → b ≡ true → (c || false) ≡ true
same_among x v b c e h = ap (λ a. a || false) (e ∙ h)

mutual
  pub holding : (t : Tree) (m : LabelMap) → holds t m ≡ true → meets (needed t) m ≡ true
  holding all m h = refl
  holding global m h = refl
  holding (has k) m h = present (map.get m k) h
  holding (equal k v) m h = among (v ∷ []) (λ x. pointwise nat_eq x v) (map.get m k) (λ x e. same_among x v _ _ (nat_list_eq_equiv.symm v x) e) h
  holding (within k vs) m h = among vs _ (map.get m k) (λ x e. e) h
  holding (contains k v) m h = there _ (map.get m k) h
  holding (starts k v) m h = there _ (map.get m k) h
  holding (ends k v) m h = there _ (map.get m k) h
  holding (unequal k v) m h = refl
  holding (outside k vs) m h = refl
  holding (negated t) m h = refl
  holding (some ts) m h = refl
  holding (each ts) m h = or_meets m (needed_with_values ts) (needed_first ts) (holding_valued ts m h) (holding_any ts m h)

  holding_valued : (ts : Trees) (m : LabelMap) → hold_all ts m ≡ true → meets (needed_with_values ts) m ≡ true
  holding_valued none m h = refl
  holding_valued (more t ts) m h =
      let parts = both_pass (holds t m) (hold_all ts m) h in
      valued_meets m (needed t) (needed_with_values ts) (holding t m parts.0) (holding_valued ts m parts.1)

  holding_any : (ts : Trees) (m : LabelMap) → hold_all ts m ≡ true → meets (needed_first ts) m ≡ true
  holding_any none m h = refl
  holding_any (more t ts) m h =
      let parts = both_pass (holds t m) (hold_all ts m) h in
      or_meets m (needed t) (needed_first ts) (holding t m parts.0) (holding_any ts m parts.1)
