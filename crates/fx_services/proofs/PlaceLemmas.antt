-- The lists that records had at the last flush, by those that they have now and those that were kept of records which changed since.
use Rattle.std.proofs.Common.{◌≡◌, ◌⊎◌, inl, inr, true, false, cond, List, [], ◌∷◌, Option, Some, None, is_some, refl, sym, ap, ◌∙◌, subst}
use Rattle.std.specs.Ordering.{is_eq}
use Rattle.std.specs.declared.cmp.Ordering.TheVariants.{Less, Equal, Greater}
use Rattle.std.specs.FinMap.{FinMap, entries, get, contains_key, insert, empty, get-entries, get-insert, get-remove, same_map}
use Rattle.std.specs.FinMap.Entries.{find}
use Rattle.fx_base.specs.Extended.{put_or_removed}
use Rattle.fx_base.proofs.Cases.{absent_value}
use Rattle.fx_base.proofs.Entries.{entries-empty}
use Rattle.fx_model.specs.contracts.ids.KeyOrd.TheImpl as key_cmp
use Rattle.fx_model.specs.declared.ids.Key.{Key}
use Rattle.fx_model.proofs.Orders.{key_total, exact_key}
use Rattle.fx_services.specs.declared.places.PlaceLists.{PlaceLists}
use Rattle.fx_services.specs.Places.{PlacesByKey, turned_back, flushed_places}
use Rattle.fx_services.proofs.MapsAt.{alike_or_apart, get-same, get-other, get-removed, get-left}

-- the lists that were kept of records
abbrev Kept : Type 0
Kept = FinMap key_cmp.cmp-value.it (Option PlaceLists)

-- what was kept, or what is there
abbrev pub kept_or : Option (Option PlaceLists) → Option PlaceLists → Option PlaceLists
kept_or None now = now
kept_or (Some was) now = was

get-put : (P : PlacesByKey) (k : Key) (o : Option PlaceLists) (q : Key) → get (put_or_removed P k o) q ≡ cond (is_eq (key_cmp.cmp-value.it q k)) o (get P q)
get-put P k None q = get-remove key_total P k q
get-put P k (Some lists) q = get-insert key_total P k lists q

get-turned : (P : PlacesByKey) (es : List (Key × Option PlaceLists)) (q : Key) → get (turned_back P es) q ≡ kept_or (find key_cmp.cmp-value.it q es) (get P q)
get-turned P [] q = refl
get-turned P (e ∷ es) q =
    get-put (turned_back P es) e.0 e.1 q
    ∙ (ap (cond (is_eq (key_cmp.cmp-value.it q e.0)) e.1) (get-turned P es q)
    ∙ elim (key_cmp.cmp-value.it q e.0) as (λ r. cond (is_eq r) e.1 (kept_or (find key_cmp.cmp-value.it q es) (get P q)) ≡ kept_or (cond (is_eq r) (Some e.1) (find key_cmp.cmp-value.it q es)) (get P q)) [
      | Less ↦ refl
      | Equal ↦ refl
      | Greater ↦ refl
    ])

pub get-flushed : (P : PlacesByKey) (before : Kept) (q : Key) → get (flushed_places P before) q ≡ kept_or (get before q) (get P q)
get-flushed P before q =
    get-turned P (entries before) q ∙ ap (λ (o : Option (Option PlaceLists)). kept_or o (get P q)) (sym (get-entries before q))

-- nothing changed since
pub flushed_now : (P : PlacesByKey) → flushed_places P empty ≡ P
flushed_now P = ap (turned_back P) (entries-empty key_cmp.cmp-value.it)

pub put-same : (P : PlacesByKey) (k : Key) (o : Option PlaceLists) → get (put_or_removed P k o) k ≡ o
put-same P k None = get-removed key_total exact_key P k
put-same P k (Some lists) = get-same key_total exact_key P k lists

pub put-other : (P : PlacesByKey) (k : Key) (o : Option PlaceLists) (q : Key) → (q ≡ k → ⊥) → get (put_or_removed P k o) q ≡ get P q
put-other P k None q apart = get-left key_total exact_key P k q apart
put-other P k (Some lists) q apart = get-other key_total exact_key P k lists q apart

-- a record changes again: what was kept of it stays
pub noted_again : (P : PlacesByKey) (before : Kept) (k : Key) (o was : Option PlaceLists) → get before k ≡ Some was → flushed_places (put_or_removed P k o) before ≡ flushed_places P before
noted_again P before k o was there =
    same_map key_total exact_key (flushed_places (put_or_removed P k o) before) (flushed_places P before) (λ q. get-flushed (put_or_removed P k o) before q ∙ (by q (alike_or_apart key_total exact_key q k) ∙ sym (get-flushed P before q)))
  where
    by : (q : Key) → (q ≡ k) ⊎ (q ≡ k → ⊥) → kept_or (get before q) (get (put_or_removed P k o) q) ≡ kept_or (get before q) (get P q)
    by q (inl same) =
        let kept : get before q ≡ Some was = ap (get before) same ∙ there in
        ap (λ (p : Option (Option PlaceLists)). kept_or p (get (put_or_removed P k o) q)) kept
        ∙ sym (ap (λ (p : Option (Option PlaceLists)). kept_or p (get P q)) kept)
    by q (inr apart) = ap (kept_or (get before q)) (put-other P k o q apart)

-- a record changes for the first time: what it had is kept
pub noted_first : (P : PlacesByKey) (before : Kept) (k : Key) (o : Option PlaceLists) → get before k ≡ None → flushed_places (put_or_removed P k o) (insert before k (get P k)) ≡ flushed_places P before
noted_first P before k o none =
    same_map key_total exact_key (flushed_places (put_or_removed P k o) (insert before k (get P k))) (flushed_places P before) (λ q. get-flushed (put_or_removed P k o) (insert before k (get P k)) q ∙ (by q (alike_or_apart key_total exact_key q k) ∙ sym (get-flushed P before q)))
  where
    by : (q : Key) → (q ≡ k) ⊎ (q ≡ k → ⊥) → kept_or (get (insert before k (get P k)) q) (get (put_or_removed P k o) q) ≡ kept_or (get before q) (get P q)
    by q (inl same) =
        let at_k : kept_or (get (insert before k (get P k)) k) (get (put_or_removed P k o) k) ≡ kept_or (get before k) (get P k) =
        ap (λ (p : Option (Option PlaceLists)). kept_or p (get (put_or_removed P k o) k)) (get-same key_total exact_key before k (get P k))
        ∙ sym (ap (λ (p : Option (Option PlaceLists)). kept_or p (get P k)) none) in
        let Q : Key → Type 0 = λ r. kept_or (get (insert before k (get P k)) r) (get (put_or_removed P k o) r) ≡ kept_or (get before r) (get P r) in
        subst Q (sym same) at_k
    by q (inr apart) =
        (λ i. kept_or (get-other key_total exact_key before k (get P k) q apart i) (put-other P k o q apart i))

-- ---- a change that is noted

-- what the record had at the last flush is kept already
pub noted_kept : (P now : PlacesByKey) (before still : Kept) (k : Key) (o : Option PlaceLists) → now ≡ put_or_removed P k o → still ≡ before → contains_key still k ≡ true → flushed_places now still ≡ flushed_places P before
noted_kept P now before still k o lists same there =
    (λ i. flushed_places (lists i) (same i))
    ∙ by (get before k) refl (ap (λ (m : Kept). contains_key m k) (sym same) ∙ there)
  where
    by : (was : Option (Option PlaceLists)) → get before k ≡ was → is_some was ≡ true → flushed_places (put_or_removed P k o) before ≡ flushed_places P before
    by None e h = cc
    by (Some was) e h = noted_again P before k o was e

-- it is kept from now on
pub noted_new : (P now : PlacesByKey) (before still after : Kept) (k own : Key) (o had : Option PlaceLists) → now ≡ put_or_removed P k o → still ≡ before → contains_key still k ≡ false → had ≡ get P k → own ≡ k → after ≡ insert still own had → flushed_places now after ≡ flushed_places P before
noted_new P now before still after k own o had lists same none was one put =
    let kept : after ≡ insert before k (get P k) = put ∙ (λ i. insert (same i) (one i) (was i)) in
    (λ i. flushed_places (lists i) (kept i))
    ∙ noted_first P before k o (absent_value (get before k) (ap (λ (m : Kept). contains_key m k) (sym same) ∙ none))

-- ---- lists at the last flush

pub kept_flushed : (P : PlacesByKey) (before : Kept) (k : Key) (was : Option PlaceLists) → Some was ≡ get before k → was ≡ get (flushed_places P before) k
kept_flushed P before k was there =
    sym (get-flushed P before k ∙ ap (λ (o : Option (Option PlaceLists)). kept_or o (get P k)) (sym there))

pub now_flushed : (P : PlacesByKey) (before : Kept) (k : Key) → None ≡ get before k → get P k ≡ get (flushed_places P before) k
now_flushed P before k none =
    sym (get-flushed P before k ∙ ap (λ (o : Option (Option PlaceLists)). kept_or o (get P k)) (sym none))
