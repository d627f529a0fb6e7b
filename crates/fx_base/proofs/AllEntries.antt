-- What holds of each entry of a map goes on when entries are put in.
use Rattle.std.proofs.Common.{◌≡◌, Bool, true, List, [], ◌∷◌, refl, ap, ◌∙◌, subst}
use Rattle.std.specs.List.{list_all}
use Rattle.std.specs.declared.cmp.Ordering.{Ordering}
use Rattle.std.specs.declared.cmp.Ordering.TheVariants.{Less, Equal, Greater}
use Rattle.std.specs.Cmp.{IsTotalOrder}
use Rattle.std.specs.FinMap.{FinMap, IsAntisymmetric, put, entries, empty, insert, entries-insert}
use Rattle.std.specs.FinMap.Entries.{by_order}
use Rattle.fx_base.specs.Same.{both_pass}
use Rattle.fx_base.specs.Extended.{extended, collected}
use Rattle.fx_base.proofs.Entries.{entries-empty}
use Rattle.fx_base.proofs.Cases.{both_true}

module _ {K X : Type 0} {R : K → K → Ordering} (exact : IsAntisymmetric R) (p : K × X → Bool) where
  all-put : (k : K) (v : X) (es : List (K × X)) → p (k, v) ≡ true → list_all p es ≡ true → list_all p (put R k v es) ≡ true
  all-put k v [] here all = both_true (p (k, v)) true here refl
  all-put k v (e ∷ es) here all =
      let parts = both_pass (p e) (list_all p es) all in
      elim (R k e.0) as (λ r. R k e.0 ≡ r → list_all p (by_order r ((k, v) ∷ e ∷ es) ((e.0, v) ∷ es) (e ∷ put R k v es)) ≡ true) [
        | Less ↦ λ is. both_true (p (k, v)) (list_all p (e ∷ es)) here all
        | Equal ↦ λ is. both_true (p (e.0, v)) (list_all p es) (subst (λ (q : K). p (q, v) ≡ true) (exact k e.0 is) here) parts.1
        | Greater ↦ λ is. both_true (p e) (list_all p (put R k v es)) parts.0 (all-put k v es here parts.1)
      ] refl

  module _ (o : IsTotalOrder R) where
    pub all-insert : (m : FinMap R X) (k : K) (v : X) → p (k, v) ≡ true → list_all p (entries m) ≡ true → list_all p (entries (insert m k v)) ≡ true
    all-insert m k v here all = ap (list_all p) (entries-insert o m k v) ∙ all-put k v (entries m) here all

    pub all-extended : (m : FinMap R X) (es : List (K × X)) → list_all p (entries m) ≡ true → list_all p es ≡ true → list_all p (entries (extended m es)) ≡ true
    all-extended m [] all more = all
    all-extended m (e ∷ es) all more =
        let parts = both_pass (p e) (list_all p es) more in
        all-extended (insert m e.0 e.1) es (all-insert m e.0 e.1 parts.0 all) parts.1

    pub all-collected : (es : List (K × X)) → list_all p es ≡ true → list_all p (entries {R = R} (collected es)) ≡ true
    all-collected es all = all-extended empty es (ap (list_all p) (entries-empty R)) all
