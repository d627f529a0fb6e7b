-- A test of what stands in a map is one of the entries that were put in, where no two have one key.
use Rattle.std.proofs.Common.{◌≡◌, Bool, true, false, ◌||◌, cond, List, [], ◌∷◌, refl, sym, ap, ◌∙◌, subst}
use Rattle.std.specs.Prelude.{T, filter}
use Rattle.std.specs.List.{list_any, AllByRecursion}
use Rattle.std.specs.Ordering.{is_lt}
use Rattle.std.specs.declared.cmp.Ordering.{Ordering}
use Rattle.std.specs.declared.cmp.Ordering.TheVariants.{Less, Equal, Greater}
use Rattle.std.specs.Cmp.{IsTotalOrder, tied_itself}
use Rattle.std.specs.FinMap.{FinMap, entries, entries_sorted, insert, empty, put, is_sorted, entries-insert}
use Rattle.std.specs.FinMap.Entries.{by_order, below_all}
use Rattle.fx_base.proofs.Entries.{entries-empty}
use Rattle.fx_base.specs.Extended.{extended, collected}
use Rattle.fx_laws.proofs.EntryLookups.{first, second}
use Rattle.fx_kube_laws.proofs.Lists.{unmoved_or}

swapped : (a b c : Bool) → (a || (b || c)) ≡ (b || (a || c))
swapped true true c = refl
swapped true false c = refl
swapped false b c = refl

regrouped : (a b c : Bool) → (a || (b || c)) ≡ ((b || a) || c)
regrouped true true c = refl
regrouped true false c = refl
regrouped false true c = refl
regrouped false false c = refl

module _ {K X : Type 0} (R : K → K → Ordering) where
  -- no entry has this key
  abbrev pub Differs : K → List (K × X) → Type 0
  Differs k es = AllByRecursion (λ e. R k e.0 ≡ Equal → ⊥) es

  -- no two entries have one key
  abbrev pub AreApart : List (K × X) → Type 0
  AreApart [] = Unit {0}
  AreApart (e ∷ es) = AllByRecursion (λ g. R g.0 e.0 ≡ Equal → ⊥) es × AreApart es

  differs-put : (q k : K) (v : X) (es : List (K × X)) → (R q k ≡ Equal → ⊥) → Differs q es → Differs q (put R k v es)
  differs-put q k v [] n h = (n, tt)
  differs-put q k v (e ∷ es) n h =
      elim (R k e.0) as (λ r. Differs q (by_order r ((k, v) ∷ e ∷ es) ((e.0, v) ∷ es) (e ∷ put R k v es))) [
        | Less ↦ (n, h)
        | Equal ↦ (h.0, h.1)
        | Greater ↦ (h.0, differs-put q k v es n h.1)
      ]

  module _ (f : X → Bool) where
    abbrev pub any_value : List (K × X) → Bool
    any_value es = list_any (λ e. f e.1) es

    any-put : (k : K) (v : X) (es : List (K × X)) → Differs k es → any_value (put R k v es) ≡ (f v || any_value es)
    any-put k v [] h = refl
    any-put k v (e ∷ es) h =
        elim (R k e.0) as (λ r. R k e.0 ≡ r → any_value (by_order r ((k, v) ∷ e ∷ es) ((e.0, v) ∷ es) (e ∷ put R k v es)) ≡ (f v || (f e.1 || any_value es))) [
          | Less ↦ λ is. refl
          | Equal ↦ λ is. absurd (h.0 is)
          | Greater ↦ λ is. ap (λ b. f e.1 || b) (any-put k v es h.1) ∙ swapped (f e.1) (f v) (any_value es)
        ] refl

    module _ (o : IsTotalOrder R) where
      all-differ : (m : FinMap R X) (e : K × X) (es : List (K × X)) → AllByRecursion (λ g. Differs g.0 (entries m)) es → AllByRecursion (λ g. R g.0 e.0 ≡ Equal → ⊥) es → AllByRecursion (λ g. Differs g.0 (entries (insert m e.0 e.1))) es
      all-differ m e [] h n = tt
      all-differ m e (g ∷ es) h n =
          (subst (Differs g.0) (sym (entries-insert o m e.0 e.1)) (differs-put g.0 e.0 e.1 (entries m) n.0 h.0), all-differ m e es h.1 n.1)

      any-extended : (m : FinMap R X) (es : List (K × X)) → AllByRecursion (λ g. Differs g.0 (entries m)) es → AreApart es → any_value (entries (extended m es)) ≡ (any_value es || any_value (entries m))
      any-extended m [] h n = refl
      any-extended m (e ∷ es) h n =
          any-extended (insert m e.0 e.1) es (all-differ m e es h.1 n.0) n.1
          ∙ ap (λ b. any_value es || b) (ap any_value (entries-insert o m e.0 e.1) ∙ any-put e.0 e.1 (entries m) h.0)
          ∙ regrouped (any_value es) (f e.1) (any_value (entries m))

      none-differ : (es : List (K × X)) → AllByRecursion (λ g. Differs g.0 (entries (empty {X = X} {R = R}))) es
      none-differ [] = tt
      none-differ (g ∷ es) = (subst (Differs g.0) (sym (entries-empty R)) tt, none-differ es)

      pub any-collected : (es : List (K × X)) → AreApart es → any_value (entries {R = R} (collected es)) ≡ any_value es
      any-collected es n =
          any-extended empty es (none-differ es) n
          ∙ ap (λ (l : List (K × X)). any_value es || any_value l) (entries-empty R)
          ∙ unmoved_or (any_value es)

-- what holds of each key that is put in holds of each key that is there
module _ {K X : Type 0} (R : K → K → Ordering) (Q : K → Type 0) where
  keys-put : (k : K) (v : X) (es : List (K × X)) → Q k → AllByRecursion (λ e. Q e.0) es → AllByRecursion (λ e. Q e.0) (put R k v es)
  keys-put k v [] here h = (here, tt)
  keys-put k v (e ∷ es) here h =
      elim (R k e.0) as (λ r. AllByRecursion (λ g. Q g.0) (by_order r ((k, v) ∷ e ∷ es) ((e.0, v) ∷ es) (e ∷ put R k v es))) [
        | Less ↦ (here, h)
        | Equal ↦ (h.0, h.1)
        | Greater ↦ (h.0, keys-put k v es here h.1)
      ]

  module _ (o : IsTotalOrder R) where
    keys-extended : (m : FinMap R X) (es : List (K × X)) → AllByRecursion (λ e. Q e.0) (entries m) → AllByRecursion (λ e. Q e.0) es → AllByRecursion (λ e. Q e.0) (entries (extended m es))
    keys-extended m [] h g = h
    keys-extended m (e ∷ es) h g =
        keys-extended (insert m e.0 e.1) es (subst (AllByRecursion (λ f. Q f.0)) (sym (entries-insert o m e.0 e.1)) (keys-put e.0 e.1 (entries m) g.0 h)) g.1

    pub keys-collected : (es : List (K × X)) → AllByRecursion (λ e. Q e.0) es → AllByRecursion (λ e. Q e.0) (entries {R = R} (collected es))
    keys-collected es g = keys-extended empty es (subst (AllByRecursion (λ f. Q f.0)) (sym (entries-empty R)) tt) g

-- and what holds of each value
module _ {K X : Type 0} (R : K → K → Ordering) (P : X → Type 0) where
  values-put : (k : K) (v : X) (es : List (K × X)) → P v → AllByRecursion (λ e. P e.1) es → AllByRecursion (λ e. P e.1) (put R k v es)
  values-put k v [] here h = (here, tt)
  values-put k v (e ∷ es) here h =
      elim (R k e.0) as (λ r. AllByRecursion (λ g. P g.1) (by_order r ((k, v) ∷ e ∷ es) ((e.0, v) ∷ es) (e ∷ put R k v es))) [
        | Less ↦ (here, h)
        | Equal ↦ (here, h.1)
        | Greater ↦ (h.0, values-put k v es here h.1)
      ]

  module _ (o : IsTotalOrder R) where
    values-extended : (m : FinMap R X) (es : List (K × X)) → AllByRecursion (λ e. P e.1) (entries m) → AllByRecursion (λ e. P e.1) es → AllByRecursion (λ e. P e.1) (entries (extended m es))
    values-extended m [] h g = h
    values-extended m (e ∷ es) h g =
        values-extended (insert m e.0 e.1) es (subst (AllByRecursion (λ f. P f.1)) (sym (entries-insert o m e.0 e.1)) (values-put e.0 e.1 (entries m) g.0 h)) g.1

    pub values-collected : (es : List (K × X)) → AllByRecursion (λ e. P e.1) es → AllByRecursion (λ e. P e.1) (entries {R = R} (collected es))
    values-collected es g = values-extended empty es (subst (AllByRecursion (λ f. P f.1)) (sym (entries-empty R)) tt) g

-- ---- keys that rise

-- a key that comes before another is not the same
less_not_same : {K : Type 0} (R : K → K → Ordering) (o : IsTotalOrder R) (k q : K) → T (is_lt (R k q)) → q ≡ k → ⊥
less_not_same R o k q h e = by (R k q) (ap (R k) e ∙ tied_itself o k) h
  where
    by : (r : Ordering) → r ≡ Equal → T (is_lt r) → ⊥
    by Less f g = cc
    by Equal f g = g
    by Greater f g = g

module _ {K X : Type 0} (R : K → K → Ordering) (o : IsTotalOrder R) where
  -- no later key is this one
  abbrev pub IsNone : K → List (K × X) → Type 0
  IsNone k es = AllByRecursion (λ g. g.0 ≡ k → ⊥) es

  -- no two keys are one
  abbrev pub AreOthers : List (K × X) → Type 0
  AreOthers [] = Unit {0}
  AreOthers (e ∷ es) = IsNone e.0 es × AreOthers es

  below-none : (k : K) (es : List (K × X)) → T (below_all R k es) → IsNone k es
  below-none k [] h = tt
  below-none k (e ∷ es) h = (less_not_same R o k e.0 (first _ _ h), below-none k es (second _ _ h))

  sorted-others : (es : List (K × X)) → T (is_sorted R es) → AreOthers es
  sorted-others [] h = tt
  sorted-others (e ∷ es) h = (below-none e.0 es (first _ _ h), sorted-others es (second _ _ h))

  pub entries-others : (m : FinMap R X) → AreOthers (entries m)
  entries-others m = sorted-others (entries m) (entries_sorted m)

  -- among some of them either
  some-none : (k : K) (p : K × X → Bool) (es : List (K × X)) → IsNone k es → IsNone k (filter p es)
  some-none k p [] h = tt
  some-none k p (e ∷ es) h =
      elim (p e) as (λ b. IsNone k (cond b (e ∷ filter p es) (filter p es))) [
        | true ↦ (h.0, some-none k p es h.1)
        | false ↦ some-none k p es h.1
      ]

  pub some-others : (p : K × X → Bool) (es : List (K × X)) → AreOthers es → AreOthers (filter p es)
  some-others p [] h = tt
  some-others p (e ∷ es) h =
      elim (p e) as (λ b. AreOthers (cond b (e ∷ filter p es) (filter p es))) [
        | true ↦ (some-none e.0 p es h.0, some-others p es h.1)
        | false ↦ some-others p es h.1
      ]
