-- A walk of the texts below which one endpoint is put, or from which it is taken away.
use Rattle.std.proofs.Common.{◌≡◌, ℕ, Bool, true, false, cond, ◌&&◌, nat_eq, List, [], ◌∷◌, is_some, refl, sym, ap, ◌∙◌}
use Rattle.std.specs.Ordering.{nat_cmp}
use Rattle.std.specs.Cmp.Lexicographic.{slice_cmp, pointwise, nat_list_cmp_total}
use Rattle.std.specs.FinMap.{get, entries, get-entries}
use Rattle.fx_base.specs.Set as set
use Rattle.fx_base.specs.Grouped.{has_key, Texts}
use Rattle.fx_base.proofs.KeyCases.{bytes_exact}
use Rattle.fx_base.proofs.Walk.{IsRest, IsHalf, IsRest-start, IsRest-next, IsRest-head, IsHalf-head, IsHalf-next}
use Rattle.fx_model.specs.declared.ids.ItemKey.{ItemKey}
use Rattle.fx_active.specs.Rows.{Rows}
use Rattle.fx_active.specs.Steps.{same_item}
use Rattle.fx_active.proofs.CountLemmas.{tied_names, own_name}

abbrev pub is_below : Rows → List ℕ → ItemKey → Bool
is_below rows t i = has_key (get rows t) i

abbrev pub is_below_after : Texts → ItemKey → Bool → Rows → List ℕ → ItemKey → Bool
is_below_after w item b rows t i = cond (set.contains w t && same_item i item) b (has_key (get rows t) i)

-- the texts that are left of the walk of w have the endpoints that they had, the others have the endpoint or lack it
pub record IsHalfHere (w : Texts) (item : ItemKey) (b : Bool) (rows now : Rows) (es : List (List ℕ × Unit {0})) : Type 0 where
  pub rest : IsRest w es
  pub half : IsHalf (slice_cmp nat_cmp) (is_below rows) (is_below_after w item b rows) (is_below now) es

module _ (w : Texts) (item : ItemKey) (b : Bool) (rows : Rows) where
  pub here_start : IsHalfHere w item b rows rows (entries w)
  here_start = record {
    rest = IsRest-start nat_list_cmp_total w;
    half = record {
      at = λ t i.
          elim (set.contains w t) as (λ x. set.contains w t ≡ x → is_below rows t i ≡ cond x (is_below rows t i) (is_below_after w item b rows t i)) [
            | true ↦ λ e. refl
            | false ↦ λ e. sym (ap (λ x. cond (x && same_item i item) b (is_below rows t i)) e)
          ] refl
          ∙ ap (λ o. cond (is_some o) (is_below rows t i) (is_below_after w item b rows t i)) (get-entries w t);
    };
  }

  module _ (now : Rows) (e : List ℕ × Unit {0}) (es : List (List ℕ × Unit {0})) (h : IsHalfHere w item b rows now (e ∷ es)) where
    head : (i : ItemKey) → is_below now e.0 i ≡ is_below rows e.0 i
    head i = IsHalf-head nat_list_cmp_total bytes_exact (is_below rows) (is_below_after w item b rows) (is_below now) e es h.half i

    pub text_within : set.contains w e.0 ≡ true
    text_within = ap is_some (IsRest-head nat_list_cmp_total w e es h.rest)

    pub still_below : ((t : List ℕ) → set.contains w t ≡ true → is_below rows t item ≡ true) → is_below now e.0 item ≡ true
    still_below was = head item ∙ was e.0 text_within

    pub here_next : (then : Rows) → ((t : List ℕ) (i : ItemKey) → is_below then t i ≡ cond (pointwise nat_eq e.0 t && same_item i item) b (is_below now t i)) → IsHalfHere w item b rows then es
    here_next then at = record {
      rest = IsRest-next nat_list_cmp_total bytes_exact w e es h.rest;
      half = IsHalf-next nat_list_cmp_total bytes_exact (is_below rows) (is_below_after w item b rows) w (is_below now) (is_below then) e es h.rest h.half
          (λ i. at e.0 i
          ∙ (λ j. cond (own_name e.0 j && same_item i item) b (head i j))
          ∙ ap (λ x. cond (x && same_item i item) b (is_below rows e.0 i)) (sym text_within))
          (λ t i n. at t i ∙ ap (λ x. cond (x && same_item i item) b (is_below now t i)) (sym (tied_names t e.0) ∙ n));
    }

  pub here_end : (now : Rows) → IsHalfHere w item b rows now [] → (t : List ℕ) (i : ItemKey) → is_below now t i ≡ is_below_after w item b rows t i
  here_end now h t i = h.half.at t i
