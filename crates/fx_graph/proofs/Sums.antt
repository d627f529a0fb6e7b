-- What comes into use and what goes out of it, summed over the noted sets: with what was used before, the one is what is used now
-- with the other.
use Rattle.std.proofs.Common.{◌≡◌, ℕ, ◌+◌, List, [], ◌∷◌, Option, Some, None, refl, sym, ap, ◌∙◌, arith}
use Rattle.std.specs.Cmp.Lexicographic.{nat_list_cmp_total}
use Rattle.std.specs.FinMap as map
use Rattle.fx_base.specs.Extended.{put_or_removed}
use Rattle.fx_base.proofs.KeyCases.{bytes_exact}
use Rattle.fx_base.proofs.SumOver.{sum_over, sum_at, sum-insert, sum-remove}
use Rattle.fx_model.specs.Sinks.{Uses}
use Rattle.fx_model.specs.declared.set_use.SetUse.{SetUse}
use Rattle.fx_graph_view.specs.Noted.{Before, AreNoted}
use Rattle.fx_graph_view.proofs.Brought.{IsBrought, begun, head_touched, head_before, put, off, ended}
use Rattle.fx_graph_view.proofs.NotedLemmas.{unnoted, noted_was}
use Rattle.fx_graph.specs.Used.{weight_of_use, weight_at, used_among, used_in}
use Rattle.fx_base.proofs.Cases.{none_more}

abbrev pub coming_among : Uses → List ℕ → List (List ℕ × Option SetUse) → ℕ
coming_among uses t [] = 0
coming_among uses t (e ∷ es) = weight_at t (map.get uses e.0) + coming_among uses t es

abbrev pub leaving_among : List ℕ → List (List ℕ × Option SetUse) → ℕ
leaving_among t [] = 0
leaving_among t (e ∷ es) = weight_at t e.1 + leaving_among t es

one_on : (wn c wb l r s x n : ℕ) → s ≡ wb + r → x ≡ wn + r → c + x ≡ l + n → (wn + c) + s ≡ (wb + l) + n
one_on wn c wb l r s x n a b i = omega (arith, a, b, i)

-- ---- one set
abbrev weight_of_entry : List ℕ → List ℕ × SetUse → ℕ
weight_of_entry t e = weight_of_use t e.1

as_sum : (t : List ℕ) (es : List (List ℕ × SetUse)) → used_among t es ≡ sum_over (weight_of_entry t) es
as_sum t [] = refl
as_sum t (e ∷ es) = ap (λ n. weight_of_use t e.1 + n) (as_sum t es)

as_weight : (t name : List ℕ) (o : Option SetUse) → sum_at (weight_of_entry t) name o ≡ weight_at t o
as_weight t name None = refl
as_weight t name (Some u) = refl

module _ (m : Uses) (name t : List ℕ) where
  others : sum_over (weight_of_entry t) (map.entries (map.remove m name)) ≡ used_in (map.remove m name) t
  others = sym (as_sum t (map.entries (map.remove m name)))

  pub used_apart : used_in m t ≡ weight_at t (map.get m name) + used_in (map.remove m name) t
  used_apart =
      as_sum t (map.entries m)
      ∙ sum-remove nat_list_cmp_total bytes_exact (weight_of_entry t) m name
      ∙ ap (λ n. n + sum_over (weight_of_entry t) (map.entries (map.remove m name))) (as_weight t name (map.get m name))
      ∙ ap (λ n. weight_at t (map.get m name) + n) others

  used_set : (o : Option SetUse) → used_in (put_or_removed m name o) t ≡ weight_at t o + used_in (map.remove m name) t
  used_set None = none_more (used_in (map.remove m name) t)
  used_set (Some u) =
      as_sum t (map.entries (map.insert m name u))
      ∙ sum-insert nat_list_cmp_total bytes_exact (weight_of_entry t) m name u
      ∙ ap (λ n. weight_of_use t u + n) others

-- ---- all of them
module _ (notes : Before) (was uses : Uses) (noted : AreNoted notes was uses) where
  abbrev IsAt : Uses → List (List ℕ × Option SetUse) → Type 0
  IsAt state es = IsBrought nat_list_cmp_total bytes_exact notes (map.get was) (map.get uses) state es

  module _ (state : Uses) (e : List ℕ × Option SetUse) (es : List (List ℕ × Option SetUse)) (h : IsAt state (e ∷ es)) where
    next_at : (o : Option SetUse) → map.get uses e.0 ≡ o → IsAt (put_or_removed state e.0 o) es
    next_at None found = off nat_list_cmp_total bytes_exact notes (map.get was) (map.get uses) state e es h (map.remove state e.0) refl found
    next_at (Some u) found = put nat_list_cmp_total bytes_exact notes (map.get was) (map.get uses) state e es h (map.insert state e.0 u) u refl found

    stood : map.get state e.0 ≡ e.1
    stood =
        head_before nat_list_cmp_total bytes_exact notes (map.get was) (map.get uses) state e es h
        ∙ sym (noted_was (map.get notes e.0) (map.get was e.0) (map.get uses e.0) e.1 (noted.at e.0) (head_touched nat_list_cmp_total bytes_exact notes (map.get was) (map.get uses) state e es h))

  walk : (t : List ℕ) (es : List (List ℕ × Option SetUse)) (state : Uses) → IsAt state es → coming_among uses t es + used_in state t ≡ leaving_among t es + used_in uses t
  walk t [] state h =
      let same : state ≡ uses = map.same_map nat_list_cmp_total bytes_exact state uses (ended nat_list_cmp_total bytes_exact notes (map.get was) (map.get uses) state h) in
      ap (λ (m : Uses). 0 + used_in m t) same
  walk t (e ∷ es) state h =
      one_on (weight_at t (map.get uses e.0)) (coming_among uses t es) (weight_at t e.1) (leaving_among t es)
      (used_in (map.remove state e.0) t) (used_in state t) (used_in (put_or_removed state e.0 (map.get uses e.0)) t) (used_in uses t)
      (used_apart state e.0 t ∙ ap (λ o. weight_at t o + used_in (map.remove state e.0) t) (stood state e es h))
      (used_set state e.0 t (map.get uses e.0))
      (walk t es (put_or_removed state e.0 (map.get uses e.0)) (next_at state e es h (map.get uses e.0) refl))

  pub balance : (t : List ℕ) → coming_among uses t (map.entries notes) + used_in was t ≡ leaving_among t (map.entries notes) + used_in uses t
  balance t = walk t (map.entries notes) was
      (begun nat_list_cmp_total bytes_exact notes (map.get was) (map.get uses) was (λ k. refl) (λ k e. unnoted (map.get notes k) (map.get was k) (map.get uses k) (noted.at k) e))
