-- Uses by their names, or by their keys, as a map that has the first of each.
use Rattle.std.proofs.Common.{◌≡◌, ℕ, ◌+◌, ◌==◌, Bool, true, false, cond, not, ◌&&◌, List, [], ◌∷◌, ◌++◌, map, filter, Option, Some, None, is_some, refl, sym, ap, ◌∙◌, zero-add}
use Rattle.std.specs.Prelude.{if◌then◌else◌}
use Rattle.std.specs.List.{AllByRecursion, find}
use Rattle.std.specs.Ordering.{nat_cmp}
use Rattle.std.specs.Cmp.Lexicographic.{slice_cmp}
use Rattle.std.specs.FinMap as maps
use Rattle.fx_base.specs.Extended.{filled}
use Rattle.fx_base.proofs.AtKey.{get_insert, get_empty, same_by_get}
use Rattle.fx_base.proofs.Found.{each, of_found, found_passes}
use Rattle.fx_names.specs.Digests.{Digest}
use Rattle.fx_model.specs.Sets.{use_name}
use Rattle.fx_model.specs.Sinks.{Uses}
use Rattle.fx_model.specs.declared.set_use.SetUse.{SetUse}
use Rattle.fx_scanner.specs.Uses.{same_text, same_use, is_use, use_key, times, by_key, is_among}
use Rattle.fx_scanner.specs.Told.{has_name, is_told, clashes, AreTold, AreApartFrom}
use Rattle.fx_scanner.specs.Scanned.{use_entry}
use Rattle.fx_scanner.proofs.Texts.{one_text, own_text, not_both}
use Rattle.fx_scanner.proofs.Bags.{zero_left, zero_right, is_more, passes_not, not_true, not_false, none_from_all, all_from_none, none_in_first, none_in_second, none_in_both, none_passing}
use Rattle.fx_scanner.proofs.SameUses.{one_use, from_one_use, value_of, told_value}
use Rattle.fx_base.proofs.Cases.{absent_value}

-- the first, or else the second
abbrev or_else : Option SetUse → Option SetUse → Option SetUse
or_else None o = o
or_else (Some u) o = Some u

or_none : (o : Option SetUse) → o ≡ or_else o None
or_none None = refl
or_none (Some u) = refl

-- ---- what such a map has

module _ (name : SetUse → List ℕ) where
  abbrev entry : SetUse → List ℕ × SetUse
  entry u = (name u, u)

  first_stays : (q : List ℕ) (u : SetUse) (o rest : Option SetUse) → (same_text q (name u) ≡ true → is_some o ≡ true) → or_else o rest ≡ or_else o (cond (same_text q (name u)) (Some u) rest)
  first_stays q u (Some v) rest there = refl
  first_stays q u None rest there =
      elim (same_text q (name u)) as (λ b. same_text q (name u) ≡ b → rest ≡ cond b (Some u) rest) [
        | true ↦ λ h. not_both false (there h) refl
        | false ↦ λ h. refl
      ] refl

  first_comes : (q : List ℕ) (u : SetUse) (o rest : Option SetUse) → (same_text q (name u) ≡ true → is_some o ≡ false) → or_else (cond (same_text q (name u)) (Some u) o) rest ≡ or_else o (cond (same_text q (name u)) (Some u) rest)
  first_comes q u o rest absent =
      elim (same_text q (name u)) as (λ b. same_text q (name u) ≡ b → or_else (cond b (Some u) o) rest ≡ or_else o (cond b (Some u) rest)) [
        | true ↦ λ h. sym (ap (λ x. or_else x (Some u)) (absent_value o (absent h)))
        | false ↦ λ h. refl
      ] refl

  pub filled-get : (m : Uses) (us : List SetUse) (q : List ℕ) → maps.get (filled m (map entry us)) q ≡ or_else (maps.get m q) (find (λ u. same_text q (name u)) us)
  filled-get m [] q = or_none (maps.get m q)
  filled-get m (u ∷ us) q =
      let rest = find (λ (v : SetUse). same_text q (name v)) us in
      elim (maps.contains_key m (name u)) as (λ b. maps.contains_key m (name u) ≡ b → maps.get (filled (if b then m else maps.insert m (name u) u) (map entry us)) q ≡ or_else (maps.get m q) (cond (same_text q (name u)) (Some u) rest)) [
        | true ↦ λ h. filled-get m us q ∙ first_stays q u (maps.get m q) rest (λ same. ap (maps.contains_key m) (one_text q (name u) same) ∙ h)
        | false ↦ λ h.
            filled-get (maps.insert m (name u) u) us q
            ∙ ap (λ o. or_else o rest) (get_insert m (name u) u q)
            ∙ first_comes q u (maps.get m q) rest (λ same. ap (maps.contains_key m) (one_text q (name u) same) ∙ h)
      ] refl

  pub first-get : (us : List SetUse) (q : List ℕ) → maps.get {R = slice_cmp nat_cmp} (filled maps.empty (map entry us)) q ≡ find (λ u. same_text q (name u)) us
  first-get us q = filled-get maps.empty us q ∙ ap (λ o. or_else o (find (λ u. same_text q (name u)) us)) (get_empty q)

found_some : (p : SetUse → Bool) (us : List SetUse) → is_some (find p us) ≡ not (times p us == 0)
found_some p [] = refl
found_some p (u ∷ us) =
    elim (p u) as (λ b. is_some (cond b (Some u) (find p us)) ≡ not ((cond b 1 0 + times p us) == 0)) [
      | true ↦ sym (ap not (is_more (times p us)))
      | false ↦ found_some p us ∙ ap (λ n. not (n == 0)) (sym (zero-add (times p us)))
    ]

-- ---- uses by their names

module _ (dg : Digest) where
  -- the use of a name is this one, if none of these has its name and is another
  found_own : (u : SetUse) (us : List SetUse) → (times (has_name dg (use_name dg u)) us ≡ 0 → ⊥) → times (clashes dg u) us ≡ 0 → is_use u (find (has_name dg (use_name dg u)) us) ≡ true
  found_own u [] some apart = absurd (some refl)
  found_own u (v ∷ vs) some apart =
      let p = has_name dg (use_name dg u) in
      elim (p v) as (λ b. (cond b 1 0 + times p vs ≡ 0 → ⊥) → (b && not (same_use u v)) ≡ false → is_use u (cond b (Some v) (find p vs)) ≡ true) [
        | true ↦ λ more e. from_one_use v u (sym (one_use u v (not_true (same_use u v) e)))
        | false ↦ λ more e. found_own u vs (λ none. more (zero-add (times p vs) ∙ none)) (zero_right (cond (clashes dg u v) 1 0) (times (clashes dg u) vs) apart)
      ] some (passes_not (clashes dg u v) (zero_left (cond (clashes dg u v) 1 0) (times (clashes dg u) vs) apart))

  own_names : (us : List SetUse) → AllByRecursion (λ u. times (has_name dg (use_name dg u)) us ≡ 0 → ⊥) us
  own_names [] = tt
  own_names (u ∷ us) = (
    λ none. not_both (has_name dg (use_name dg u) u) (own_text (use_name dg u)) (passes_not (has_name dg (use_name dg u) u) (zero_left (cond (has_name dg (use_name dg u) u) 1 0) (times (has_name dg (use_name dg u)) us) none)),
    each (λ v. times (has_name dg (use_name dg v)) us ≡ 0 → ⊥) (λ v. times (has_name dg (use_name dg v)) (u ∷ us) ≡ 0 → ⊥)
        (λ v some none. some (zero_right (cond (has_name dg (use_name dg v) u) 1 0) (times (has_name dg (use_name dg v)) us) none)) us (own_names us),
  )

  both_of : (P Q S : SetUse → Type 0) → ((u : SetUse) → P u → Q u → S u) → (us : List SetUse) → AllByRecursion P us → AllByRecursion Q us → AllByRecursion S us
  both_of P Q S f [] p q = tt
  both_of P Q S f (u ∷ us) p q = (f u p.0 q.0, both_of P Q S f us p.1 q.1)

  -- uses that don't clash are all there
  pub filled_told : (us : List SetUse) → AllByRecursion (λ u. times (clashes dg u) us ≡ 0) us → AreTold dg (filled maps.empty (map (use_entry dg) us)) us
  filled_told us apart = record {
    names = λ name. ap is_some (first-get (use_name dg) us name) ∙ found_some (has_name dg name) us;
    sets =
        none_from_all (λ u. not (is_told dg (filled maps.empty (map (use_entry dg) us)) u)) us
        (both_of (λ u. times (has_name dg (use_name dg u)) us ≡ 0 → ⊥) (λ u. times (clashes dg u) us ≡ 0) (λ u. not (is_told dg (filled maps.empty (map (use_entry dg) us)) u) ≡ false)
        (λ u some alone. not_false (is_told dg (filled maps.empty (map (use_entry dg) us)) u)
        (ap (is_use u) (first-get (use_name dg) us (use_name dg u)) ∙ found_own u us some alone))
        us (own_names us) apart);
  }

  -- whoever has these uses and no others has them so
  pub told_filled : (uses : Uses) (us : List SetUse) → AreTold dg uses us → uses ≡ filled maps.empty (map (use_entry dg) us)
  told_filled uses us told = same_by_get uses (filled maps.empty (map (use_entry dg) us)) (λ q. by_found q (find (has_name dg q) us) refl ∙ sym (first-get (use_name dg) us q))
    where
      by_found : (q : List ℕ) (o : Option SetUse) → find (has_name dg q) us ≡ o → maps.get uses q ≡ find (has_name dg q) us
      by_found q None h =
          absent_value (maps.get uses q) (told.names q ∙ sym (found_some (has_name dg q) us) ∙ ap is_some h) ∙ sym h
      by_found q (Some u) h =
          let there : not (is_told dg uses u) ≡ false =
          of_found (λ v. not (is_told dg uses v) ≡ false) (has_name dg q) us u (all_from_none (λ v. not (is_told dg uses v)) us told.sets) h in
          ap (maps.get uses) (one_text q (use_name dg u) (found_passes (has_name dg q) us u h)) ∙ told_value dg uses u (not_true (is_told dg uses u) there) ∙ sym h

-- ---- uses that stay

-- a use that is among these is one of them
among_one : (p : SetUse → Bool) (us : List SetUse) (v : SetUse) → times p us ≡ 0 → is_among us v ≡ true → p v ≡ false
among_one p us v none among =
    let found : find (λ u. same_text (use_key v) (use_key u)) us ≡ Some v = sym (first-get use_key us (use_key v)) ∙ value_of v (maps.get (by_key us) (use_key v)) among in
    of_found (λ u. p u ≡ false) (λ u. same_text (use_key v) (use_key u)) us v (all_from_none p us none) found

-- those that stay clash with none where the new ones don't
pub apart_with_kept : (dg : Digest) (after before others : List SetUse) → AreApartFrom dg after others → AreApartFrom dg after (filter (λ v. is_among after v) before ++ others)
apart_with_kept dg after before others apart =
    each (λ u. times (clashes dg u) (after ++ others) ≡ 0) (λ u. times (clashes dg u) (after ++ (filter (λ v. is_among after v) before ++ others)) ≡ 0)
    (λ u none.
    let in_after = none_in_first (clashes dg u) after others none in
    none_in_both (clashes dg u) after (filter (λ v. is_among after v) before ++ others) in_after
    (none_in_both (clashes dg u) (filter (λ v. is_among after v) before) others
    (none_passing (λ v. is_among after v) (clashes dg u) (λ v among. among_one (clashes dg u) after v in_after among) before)
    (none_in_second (clashes dg u) after others none)))
    after apart
