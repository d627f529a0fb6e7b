-- The first pending key of a kind is the key of the first entry that a message of this kind tells of.
use Rattle.std.proofs.Common.{◌≡◌, ℕ, Bool, true, List, Option, Some, None, is_some, refl, sym, ap, ◌∙◌}
use Rattle.std.specs.List.{find, slice_get}
use Rattle.std.specs.Option.{option_map}
use Rattle.std.specs.Cmp.Lexicographic.{nat_list_cmp_total}
use Rattle.std.specs.FinMap as maps
use Rattle.fx_base.specs.Extended.{put_or_removed}
use Rattle.fx_base.specs.Passing.{passes}
use Rattle.fx_base.specs.Projected.{projected}
use Rattle.fx_base.specs.Set as set
use Rattle.fx_base.proofs.Filtered.{first-filtered}
use Rattle.fx_base.proofs.Found.{found_passes}
use Rattle.fx_base.proofs.KeyCases.{bytes_exact}
use Rattle.fx_base.proofs.Projected.{get-projected}
use Rattle.fx_laws.proofs.Apart.{found_there}
use Rattle.fx_model.specs.Messages.{Named, is_absent, is_changed, is_other, first_absent, first_changed, first_other}
use Rattle.fx_sequencer.specs.Pending.{Keys, comes, changes, alters, taken_first}
use Rattle.fx_sequencer.specs.TwoSides.{side_at}

-- ---- what a map has at a key, by the words of the messages

module _ {X : Type 0} (m : Named X) (k : List ℕ) where
  absent_passes : (wanted : Option X) → passes (is_absent m) k wanted ≡ comes (maps.get m k) wanted
  absent_passes None = refl
  absent_passes (Some x) = refl

  changed_passes : (eq : X → X → Bool) (wanted : Option X) → passes (is_changed eq m) k wanted ≡ changes eq (maps.get m k) wanted
  changed_passes eq None = refl
  changed_passes eq (Some x) = refl

  other_passes : (eq : X → X → Bool) (wanted : Option X) → passes (is_other eq m) k wanted ≡ alters eq (maps.get m k) wanted
  other_passes eq None = refl
  other_passes eq (Some x) = refl

-- ---- the first key

module _ {E X : Type 0} (left right : E → Option X) (held : Named E) (keys : Keys) where
  abbrev before : Named X
  before = projected left held

  abbrev after : Named X
  after = projected right held

  -- the two sides as the two maps have them
  by_sides : (test : Option X → Option X → Bool) (k : List ℕ) → test (side_at left held k) (side_at right held k) ≡ test (maps.get before k) (maps.get after k)
  by_sides test k i = test (sym (get-projected left held bytes_exact k) i) (sym (get-projected right held bytes_exact k) i)

  pub first_coming : ((k : List ℕ) → set.contains keys k ≡ comes (side_at left held k) (side_at right held k))
      → slice_get (set.items keys) 0 ≡ option_map (λ e. e.0) (first_absent before after)
  first_coming was =
      first-filtered nat_list_cmp_total bytes_exact (is_absent before) keys after (λ k.
      was k ∙ by_sides comes k ∙ sym (absent_passes before k (maps.get after k)))

  pub first_changing : (eq : X → X → Bool) → ((k : List ℕ) → set.contains keys k ≡ changes eq (side_at left held k) (side_at right held k))
      → slice_get (set.items keys) 0 ≡ option_map (λ e. e.0) (first_changed eq before after)
  first_changing eq was =
      first-filtered nat_list_cmp_total bytes_exact (is_changed eq before) keys after (λ k.
      was k ∙ by_sides (changes eq) k ∙ sym (changed_passes before k eq (maps.get after k)))

  pub first_altering : (eq : X → X → Bool) → ((k : List ℕ) → set.contains keys k ≡ alters eq (side_at left held k) (side_at right held k))
      → slice_get (set.items keys) 0 ≡ option_map (λ e. e.0) (first_other eq before after)
  first_altering eq was =
      first-filtered nat_list_cmp_total bytes_exact (is_other eq before) keys after (λ k.
      was k ∙ by_sides (alters eq) k ∙ sym (other_passes before k eq (maps.get after k)))

-- ---- what is known where there is a first key

-- the entry at this key is found
pub record IsFirst {X : Type 0} (test : List ℕ × X → Bool) (m : Named X) (k : List ℕ) : Type 0 where
  pub value : X
  pub there : maps.get m k ≡ Some value
  pub found : find test (maps.entries m) ≡ Some (k, value)

module _ {X : Type 0} (test : List ℕ × X → Bool) (m : Named X) (k : List ℕ) where
  pub is_first : Some k ≡ option_map (λ e. e.0) (find test (maps.entries m)) → IsFirst test m k
  is_first =
      elim (find test (maps.entries m)) as (λ o. find test (maps.entries m) ≡ o → Some k ≡ option_map (λ e. e.0) o → IsFirst test m k) [
        | None ↦ λ is key. cc
        | Some e ↦ λ is key.
            let same : k ≡ e.0 = cc in
            record {
              value = e.1;
              there = ap (maps.get m) same ∙ found_there test m e is;
              found = is ∙ (λ i. Some (sym same i, e.1));
            }
      ] refl

  pub none_first : None ≡ option_map (λ e. e.0) (find test (maps.entries m)) → find test (maps.entries m) ≡ None
  none_first =
      elim (find test (maps.entries m)) as (λ o. None ≡ option_map (λ e. e.0) o → o ≡ None) [
        | None ↦ λ none. refl
        | Some e ↦ λ none. cc
      ]

  module _ (first : IsFirst test m k) where
    -- it passes the test
    pub first_passes : test (k, first.value) ≡ true
    first_passes = found_passes test (maps.entries m) (k, first.value) first.found

    -- what is lent of it
    pub first_lent : (value : Option X) → value ≡ maps.get m k → option_map (λ x. (k, x)) value ≡ find test (maps.entries m)
    first_lent value is = ap (option_map (λ x. (k, x))) (is ∙ first.there) ∙ sym first.found

    -- and the sent side takes it over
    pub first_sent : (sent : Named X) → taken_first (find test (maps.entries m)) sent m ≡ maps.insert sent k first.value
    first_sent sent = ap (λ o. taken_first o sent m) first.found ∙ ap (put_or_removed sent k) first.there

    pub first_taken : (sent wanted : Named X) → maps.get wanted k ≡ None → taken_first (find test (maps.entries m)) sent wanted ≡ maps.remove sent k
    first_taken sent wanted none = ap (λ o. taken_first o sent wanted) first.found ∙ ap (put_or_removed sent k) none

    pub first_some : is_some (find test (maps.entries m)) ≡ true
    first_some = ap is_some first.found
