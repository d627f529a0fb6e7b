-- Entries by ascending keys: a key that came is not among those that follow.
use Rattle.std.proofs.Common.{◌≡◌, cond, List, [], ◌∷◌, Some, None, T, refl, ap, ◌∙◌}
use Rattle.std.specs.declared.cmp.Ordering.{Ordering}
use Rattle.std.specs.declared.cmp.Ordering.TheVariants.{Equal}
use Rattle.std.specs.Ordering.{is_eq}
use Rattle.std.specs.FinMap.{IsAntisymmetric, find, is_sorted}
use Rattle.std.specs.FinMap.Entries.{below_all}
use Rattle.fx_base.proofs.Cases.{first, second, less}

module _ {K X : Type 0} (R : K → K → Ordering) where
  -- a key below all
  pub none_below : (q : K) (es : List (K × X)) → T (below_all R q es) → find R q es ≡ None
  none_below q [] h = refl
  none_below q (e ∷ es) h = ap (λ r. cond (is_eq r) (Some e.1) (find R q es)) (less _ (first _ _ h)) ∙ none_below q es (second _ _ h)

  pub rest_sorted : (e : K × X) (es : List (K × X)) → T (is_sorted R (e ∷ es)) → T (is_sorted R es)
  rest_sorted e es s = second _ _ s

  pub gone : IsAntisymmetric R → (e : K × X) (es : List (K × X)) → T (is_sorted R (e ∷ es)) → (t : K) → R t e.0 ≡ Equal → find R t es ≡ None
  gone exact e es s t p = ap (λ k. find R k es) (exact t e.0 p) ∙ none_below e.0 es (first _ _ s)
