-- What is there after all entries of a map have been put into another one, each with what a function makes of its value.
use Rattle.std.proofs.Common.{◌≡◌, Bool, true, false, cond, ◌&&◌, List, [], ◌∷◌, map as each, Option, Some, None, T, refl, sym, ap, ◌∙◌, subst}
use Rattle.std.specs.Prelude.{option_map}
use Rattle.std.specs.declared.cmp.Ordering.{Ordering}
use Rattle.std.specs.declared.cmp.Ordering.TheVariants.{Less, Equal, Greater}
use Rattle.std.specs.Ordering.{is_lt, is_eq}
use Rattle.std.specs.Cmp.{IsTotalOrder}
use Rattle.std.specs.FinMap.{FinMap, IsAntisymmetric, find, is_sorted, entries, entries_sorted, get, insert, empty, get-entries, get-empty}
use Rattle.std.specs.FinMap.Entries.{below_all}
use Rattle.fx_base.specs.Extended.{extended}
use Rattle.fx_node_laws.proofs.OneKey.{here_inserted, there_inserted}
use Rattle.fx_base.proofs.Cases.{first, second, less}

-- the first one, if it is there, or else the second
abbrev either : {A : Type 0} → Option A → Option A → Option A
either None o = o
either (Some x) o = Some x

alone : {A : Type 0} (o : Option A) → either o None ≡ o
alone None = refl
alone (Some x) = refl

module _ {K X Y : Type 0} {R : K → K → Ordering} (o : IsTotalOrder R) (exact : IsAntisymmetric R) (f : X → Y) where
  none_below : (q : K) (es : List (K × X)) → T (below_all R q es) → find R q es ≡ None
  none_below q [] h = refl
  none_below q (e ∷ es) h = ap (λ r. cond (is_eq r) (Some e.1) (find R q es)) (less _ (first _ _ h)) ∙ none_below q es (second _ _ h)

  brought_all : (m : FinMap R Y) (es : List (K × X)) → T (is_sorted R es) → (q : K) → get (extended m (each (λ e. (e.0, f e.1)) es)) q ≡ either (option_map f (find R q es)) (get m q)
  brought_all m [] s q = refl
  brought_all m (e ∷ es) s q =
      brought_all (insert m e.0 (f e.1)) es (second _ _ s) q
      ∙ elim (R q e.0) as (λ r. R q e.0 ≡ r → either (option_map f (find R q es)) (get (insert m e.0 (f e.1)) q) ≡ either (option_map f (cond (is_eq r) (Some e.1) (find R q es))) (get m q)) [
        | Less ↦ λ p. ap (either (option_map f (find R q es))) (there_inserted o exact m e.0 (f e.1) q (ap is_eq p))
        | Greater ↦ λ p. ap (either (option_map f (find R q es))) (there_inserted o exact m e.0 (f e.1) q (ap is_eq p))
        | Equal ↦ λ p. subst (λ k. either (option_map f (find R k es)) (get (insert m e.0 (f e.1)) k) ≡ Some (f e.1)) (sym (exact q e.0 p))
            (ap (λ x. either (option_map f x) (get (insert m e.0 (f e.1)) e.0)) (none_below e.0 es (first _ _ s)) ∙ here_inserted o exact m e.0 (f e.1))
      ] refl

  -- into a map that has nothing
  pub brought : (m : FinMap R Y) → m ≡ empty → (w : FinMap R X) (q : K) → get (extended m (each (λ e. (e.0, f e.1)) (entries w))) q ≡ option_map f (get w q)
  brought m none w q =
      brought_all m (entries w) (entries_sorted w) q
      ∙ ap (either (option_map f (find R q (entries w)))) (ap (λ x. get x q) none ∙ get-empty R q)
      ∙ alone (option_map f (find R q (entries w)))
      ∙ ap (option_map f) (sym (get-entries w q))
