-- Notes of what sets were, as sets come into use and go out of it.
use Rattle.std.proofs.Common.{◌≡◌, ℕ, true, cond, List, Option, Some, None, is_some, refl, sym, ap, ◌∙◌, subst}
use Rattle.std.specs.declared.cmp.Ordering.TheVariants.{Less, Equal, Greater}
use Rattle.std.specs.Ordering.{nat_cmp, is_eq}
use Rattle.std.specs.Cmp.Lexicographic.{slice_cmp, nat_list_cmp_total}
use Rattle.std.specs.FinMap as map
use Rattle.fx_base.proofs.KeyCases.{bytes_exact, at_remove}
use Rattle.fx_model.specs.Sinks.{Uses}
use Rattle.fx_model.specs.declared.set_use.SetUse.{SetUse}
use Rattle.fx_graph_view.specs.Noted.{Before, IsNote, AreNoted, IsFormed, AreFormed}

the_use : (x y : SetUse) → Some x ≡ Some y → x ≡ y
the_use x y e = cc

no_note : {A : Type 0} (x : A) → Some x ≡ None → ⊥
no_note x e = cc

pub formed_more : (uses next : Uses) (name : List ℕ) (u : SetUse) → AreFormed uses → IsFormed name u → next ≡ map.insert uses name u → AreFormed next
formed_more uses next name u h is put = subst AreFormed (sym put) (λ q v e.
    elim (slice_cmp nat_cmp q name) as (λ r. slice_cmp nat_cmp q name ≡ r → cond (is_eq r) (Some u) (map.get uses q) ≡ Some v → IsFormed q v) [
      | Less ↦ λ _ p. h q v p
      | Greater ↦ λ _ p. h q v p
      | Equal ↦ λ q_is p. subst (λ n. IsFormed n v) (sym (bytes_exact q name q_is)) (subst (IsFormed name) (the_use u v p) is)
    ] refl (sym (map.get-insert nat_list_cmp_total uses name u q) ∙ e))

pub formed_fewer : (uses next : Uses) (name : List ℕ) → AreFormed uses → next ≡ map.remove uses name → AreFormed next
formed_fewer uses next name h put = subst AreFormed (sym put) (λ q v e. h q v (at_remove uses name q v e))

pub noted_none : (uses : Uses) (start : Uses) → uses ≡ start → AreNoted map.empty start uses
noted_none uses start same = record { at = λ q. subst (λ n. IsNote n (map.get start q) (map.get uses q)) (sym (map.get-empty (slice_cmp nat_cmp) q)) (ap (λ m. map.get m q) (sym same)) }

pub unnoted : (n : Option (Option SetUse)) (a b : Option SetUse) → IsNote n a b → n ≡ None → a ≡ b
unnoted None a b h e = h
unnoted (Some w) a b h e = absurd (no_note w e)

noted_any : (n : Option (Option SetUse)) (a b c : Option SetUse) → IsNote n a b → is_some n ≡ true → IsNote n a c
noted_any None a b c h e = cc
noted_any (Some w) a b c h e = h

module _ (before : Before) (start now : Uses) (h : AreNoted before start now) (name : List ℕ) where
  -- what is noted stays noted whatever becomes of it
  pub noted_before : (next : Uses) (x : Option SetUse) → is_some (map.get before name) ≡ true → ((q : List ℕ) → map.get next q ≡ cond (is_eq (slice_cmp nat_cmp q name)) x (map.get now q)) → AreNoted before start next
  noted_before next x there change = record {
    at = λ q. subst (λ v. IsNote (map.get before q) (map.get start q) v) (sym (change q))
        (elim (slice_cmp nat_cmp q name) as (λ r. slice_cmp nat_cmp q name ≡ r → IsNote (map.get before q) (map.get start q) (cond (is_eq r) x (map.get now q))) [
          | Less ↦ λ _. h.at q
          | Greater ↦ λ _. h.at q
          | Equal ↦ λ p. noted_any (map.get before q) (map.get start q) (map.get now q) x (h.at q) (ap (λ k. is_some (map.get before k)) (bytes_exact q name p) ∙ there)
        ] refl);
  }

  -- one is noted as it is before it changes
  pub noted_now : (after : Before) (next : Uses) (x : Option SetUse) → map.get before name ≡ None → after ≡ map.insert before name (map.get now name) → ((q : List ℕ) → map.get next q ≡ cond (is_eq (slice_cmp nat_cmp q name)) x (map.get now q)) → AreNoted after start next
  noted_now after next x absent made change = record {
    at = λ q. subst (λ n. IsNote n (map.get start q) (map.get next q)) (sym (ap (λ m. map.get m q) made ∙ map.get-insert nat_list_cmp_total before name (map.get now name) q))
        (subst (λ v. IsNote (cond (is_eq (slice_cmp nat_cmp q name)) (Some (map.get now name)) (map.get before q)) (map.get start q) v) (sym (change q))
        (elim (slice_cmp nat_cmp q name) as (λ r. slice_cmp nat_cmp q name ≡ r → IsNote (cond (is_eq r) (Some (map.get now name)) (map.get before q)) (map.get start q) (cond (is_eq r) x (map.get now q))) [
          | Less ↦ λ _. h.at q
          | Greater ↦ λ _. h.at q
          | Equal ↦ λ p. ap (map.get now) (sym (bytes_exact q name p)) ∙ sym (unnoted (map.get before q) (map.get start q) (map.get now q) (h.at q) (ap (map.get before) (bytes_exact q name p) ∙ absent))
        ] refl));
  }

-- what is noted is what stood at the start
pub noted_was : (n : Option (Option SetUse)) (a b w : Option SetUse) → IsNote n a b → n ≡ Some w → w ≡ a
noted_was None a b w h e = cc
noted_was (Some v) a b w h e = let same : v ≡ w = cc in sym same ∙ h
