-- How many items of a set pass a test, as an item comes or goes.
use Rattle.std.proofs.Common.{◌≡◌, ℕ, ◌+◌, Bool, true, false, cond, List, [], ◌∷◌, Option, Some, None, is_some, refl, sym, ap, ◌∙◌}
use Rattle.std.specs.declared.cmp.Ordering.{Ordering}
use Rattle.std.specs.declared.cmp.Ordering.TheVariants.{Less, Equal, Greater}
use Rattle.std.specs.Ordering.{is_eq, eq_by_cmp}
use Rattle.std.specs.Cmp.{IsTotalOrder, tied_itself}
use Rattle.std.specs.FinMap.{IsAntisymmetric, find, put, entries, get, get-entries, entries-insert, get-insert, get-remove, same_map}
use Rattle.std.specs.FinMap.Entries.{by_order}
use Rattle.fx_base.specs.Set as set
use Rattle.fx_base.proofs.Cases.{moved}

-- how many keys pass
abbrev pub tally : {K X : Type 0} → (K → Bool) → List (K × X) → ℕ
tally p [] = 0
tally p (e ∷ es) = cond (p e.0) 1 0 + tally p es

not_found : {X : Type 0} (x : X) → Some x ≡ None → ⊥
not_found x e = cc

module _ {K X : Type 0} (R : K → K → Ordering) (p : K → Bool) (k : K) (v : X) where
  tally-put : (es : List (K × X)) → find R k es ≡ None → tally p (put R k v es) ≡ cond (p k) 1 0 + tally p es
  tally-put [] h = refl
  tally-put (e ∷ es) h =
      elim (R k e.0) as (λ r. cond (is_eq r) (Some e.1) (find R k es) ≡ None → tally p (by_order r ((k, v) ∷ e ∷ es) ((e.0, v) ∷ es) (e ∷ put R k v es)) ≡ cond (p k) 1 0 + (cond (p e.0) 1 0 + tally p es)) [
        | Less ↦ λ g. refl
        | Equal ↦ λ g. absurd (not_found e.1 g)
        | Greater ↦ λ g. ap (λ n. cond (p e.0) 1 0 + n) (tally-put es g) ∙ moved (cond (p e.0) 1 0) (cond (p k) 1 0) (tally p es)
      ] h

none_of : (o : Option (Unit {0})) → is_some o ≡ false → o ≡ None
none_of None h = refl
none_of (Some x) h = cc

some_of : (o : Option (Unit {0})) → is_some o ≡ true → o ≡ Some tt
some_of None h = cc
some_of (Some tt) h = refl

covered : {A : Type 0} (b : Bool) (x y : Option A) → cond b x (cond b None y) ≡ cond b x y
covered true x y = refl
covered false x y = refl

module _ {K : Type 0} {R : K → K → Ordering} (o : IsTotalOrder R) (p : K → Bool) where
  -- one more
  pub tally-insert : (s : set.Set R) (k : K) → set.contains s k ≡ false → tally p (entries (set.insert s k)) ≡ cond (p k) 1 0 + tally p (entries s)
  tally-insert s k h = ap (tally p) (entries-insert o s k tt) ∙ tally-put R p k tt (entries s) (sym (get-entries s k) ∙ none_of _ h)

  at_there : (s : set.Set R) (k : K) → IsAntisymmetric R → get s k ≡ Some tt → (q : K) → cond (eq_by_cmp R q k) (Some tt) (get s q) ≡ get s q
  at_there s k exact h q =
      elim (R q k) as (λ r. R q k ≡ r → cond (is_eq r) (Some tt) (get s q) ≡ get s q) [
        | Less ↦ λ e. refl
        | Equal ↦ λ e. sym h ∙ ap (get s) (sym (exact q k e))
        | Greater ↦ λ e. refl
      ] refl

  -- one less
  pub tally-remove : IsAntisymmetric R → (s : set.Set R) (k : K) → set.contains s k ≡ true → tally p (entries s) ≡ cond (p k) 1 0 + tally p (entries (set.remove s k))
  tally-remove exact s k h =
      let back : set.insert (set.remove s k) k ≡ s = same_map o exact _ _ (λ q.
      get-insert o (set.remove s k) k tt q ∙ ap (cond (eq_by_cmp R q k) (Some tt)) (get-remove o s k q)
      ∙ covered (eq_by_cmp R q k) (Some tt) (get s q) ∙ at_there s k exact (some_of _ h) q) in
      ap (λ t. tally p (entries t)) (sym back)
      ∙ tally-insert (set.remove s k) k (ap is_some (get-remove o s k k ∙ ap (λ r. cond (is_eq r) None (get s k)) (tied_itself o k)))
