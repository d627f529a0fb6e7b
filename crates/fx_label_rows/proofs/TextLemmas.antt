-- Rows of texts, as one row changes.
use Rattle.std.proofs.Common.{◌≡◌, ℕ, ◌+◌, ◌<◌, length, get_or, drop, map, Bool, true, false, cond, ◌&&◌, ◌||◌, nat_eq, List, [], ◌∷◌, Option, Some, None, is_some, unwrap_or, refl, sym, ap, ◌∙◌}
use Rattle.std.proofs.lemmas.List.{drop_more}
use Rattle.std.specs.List.{list_any}
use Rattle.std.specs.declared.cmp.Ordering.TheVariants.{Less, Equal, Greater}
use Rattle.std.specs.declared.cmp.Ordering.{Ordering}
use Rattle.std.specs.Ordering.{nat_cmp, is_eq, eq_by_cmp}
use Rattle.std.specs.Cmp.{IsTotalOrder, eq_by_cmp_equiv}
use Rattle.std.specs.Cmp.Lexicographic.{slice_cmp, pointwise, nat_list_cmp_total, texts_ties}
use Rattle.std.specs.FinMap.{FinMap, IsAntisymmetric, entries, find, get, get-entries, insert, remove, get-insert, get-remove, empty, len, empty_of_len}
use Rattle.fx_base.specs.Set as set
use Rattle.fx_base.proofs.AtKey.{get_empty, insert_removed}
use Rattle.fx_base.proofs.SetAt.{contains_insert}
use Rattle.fx_selector.specs.Truth.{is_among}
use Rattle.fx_selector.specs.Needs.{Need}
use Rattle.fx_label_rows.specs.Spots.{Spot, free, at_key, at_value, stands_by, at, at_label}
use Rattle.fx_label_rows.specs.TextGroups.{TextGroups, has_pair}
use Rattle.fx_base.specs.Grouped.{Texts, has_key, same_text}
use Rattle.fx_label_rows.specs.declared.by_need.TextsByNeed.{TextsByNeed}

module _ {K X I : Type 0} {R : K → K → Ordering} (o : IsTotalOrder R) (exact : IsAntisymmetric R) (D : Option X → I → Bool) (P : I → Bool) (b : Bool) (m : FinMap R X) (key : K) where
  from_row : (now : FinMap R X) (there : Option X) → ((k : K) → get now k ≡ cond (eq_by_cmp R k key) there (get m k)) → ((i : I) → D there i ≡ cond (P i) b (D (get m key) i)) → (k : K) (i : I) → D (get now k) i ≡ cond (eq_by_cmp R k key && P i) b (D (get m k) i)
  from_row now there is row k i =
      ap (λ o. D o i) (is k)
      ∙ elim (R k key) as (λ r. R k key ≡ r → D (cond (is_eq r) there (get m k)) i ≡ cond (is_eq r && P i) b (D (get m k) i)) [
        | Less ↦ λ e. refl
        | Greater ↦ λ e. refl
        | Equal ↦ λ e. row i ∙ ap (λ q. cond (P i) b (D (get m q) i)) (sym (exact k key e))
      ] refl

  -- the row is put back as it is now
  pub row_put : (x : X) (now : FinMap R X) → now ≡ insert (remove m key) key x → ((i : I) → D (Some x) i ≡ cond (P i) b (D (get m key) i)) → (k : K) (i : I) → D (get now k) i ≡ cond (eq_by_cmp R k key && P i) b (D (get m k) i)
  row_put x now is row = from_row now (Some x) (λ k. ap (λ n. get n k) (is ∙ insert_removed o exact m key x) ∙ get-insert o m key x k) row

  -- a row with nothing left is not put back
  pub row_gone : (now : FinMap R X) → now ≡ remove m key → ((i : I) → D None i ≡ cond (P i) b (D (get m key) i)) → (k : K) (i : I) → D (get now k) i ≡ cond (eq_by_cmp R k key && P i) b (D (get m k) i)
  row_gone now is row = from_row now None (λ k. ap (λ n. get n k) is ∙ get-remove o m key k) row

pub none_there : (t : List ℕ) → set.contains {R = slice_cmp nat_cmp} set.empty t ≡ false
none_there t = ap is_some (get_empty t)

-- the texts of a row, or none
pub texts_found : (o : Option Texts) (texts : Texts) (t : List ℕ) → texts ≡ unwrap_or o empty → set.contains texts t ≡ has_key o t
texts_found None texts t is = ap (λ s. set.contains s t) is ∙ none_there t
texts_found (Some s) texts t is = ap (λ s. set.contains s t) is

pub rows_found : (o : Option TextGroups) (rows : TextGroups) (p : List ℕ × List ℕ) → rows ≡ unwrap_or o empty → has_key (get rows p.0) p.1 ≡ has_pair o p
rows_found None rows p is = ap (λ (r : TextGroups). has_key (get r p.0) p.1) is ∙ ap (λ (o : Option Texts). has_key o p.1) (get_empty p.0)
rows_found (Some r) rows p is = ap (λ (r : TextGroups). has_key (get r p.0) p.1) is

pub none_left : (texts : Texts) (t : List ℕ) → len texts ≡ 0 → set.contains texts t ≡ false
none_left texts t is = ap (λ s. set.contains s t) (empty_of_len texts is) ∙ none_there t

-- ---- a walk over values
tied : (v x : List ℕ) → pointwise nat_eq v x ≡ same_text x v
tied v x = texts_ties v x ∙ (eq_by_cmp_equiv nat_list_cmp_total).symm v x

pub value_next : (values : List (List ℕ)) (i : ℕ) (v : List ℕ) → i < length values → v ≡ get_or values i v → (x : List ℕ) → is_among (drop i values) x ≡ (same_text x v || is_among (drop (i + 1) values) x)
value_next values i v h e x =
    ap (λ vs. is_among vs x) (drop_more values i v h ∙ ap (λ w. w ∷ drop (i + 1) values) (sym e))
    ∙ ap (λ b. b || is_among (drop (i + 1) values) x) (tied v x)

pub merged : (a t r s b n : Bool) → cond (a && (r && t)) b (cond (a && (s && t)) b n) ≡ cond (a && ((s || r) && t)) b n
merged false t r s b n = refl
merged true true true true b n = refl
merged true true true false b n = refl
merged true true false true b n = refl
merged true true false false b n = refl
merged true false true true b n = refl
merged true false true false b n = refl
merged true false false true b n = refl
merged true false false false b n = refl

pub ended : (a b n : Bool) → cond (a && false) b n ≡ n
ended true b n = refl
ended false b n = refl

-- ---- a walk over texts that are put in
joined : (s l n : Bool) → ((s || l) || n) ≡ (l || cond s true n)
joined true true n = refl
joined true false n = refl
joined false l n = refl

both_joined : (a b l n : Bool) → (((a || b) || l) || n) ≡ (l || (b || (a || n)))
both_joined true true true n = refl
both_joined true true false n = refl
both_joined true false true n = refl
both_joined true false false n = refl
both_joined false true true n = refl
both_joined false true false n = refl
both_joined false false l n = refl

pub put_next : (now next : Texts) (k : List ℕ) (u : Unit {0}) (rest : List (List ℕ × Unit {0})) (whole : List ℕ → Bool) → ((t : List ℕ) → (list_any (same_text t) (map (λ e. e.0) ((k, u) ∷ rest)) || set.contains now t) ≡ whole t) → next ≡ set.insert now k → (t : List ℕ) → (list_any (same_text t) (map (λ e. e.0) rest) || set.contains next t) ≡ whole t
put_next now next k u rest whole h is t =
    ap (λ b. list_any (same_text t) (map (λ e. e.0) rest) || b) (ap (λ s. set.contains s t) is ∙ contains_insert nat_list_cmp_total now k t)
    ∙ sym (joined (same_text t k) (list_any (same_text t) (map (λ e. e.0) rest)) (set.contains now t)) ∙ h t

pub label_next : (x : TextsByNeed) (now mid next : Texts) (k v : List ℕ) (rest : List (List ℕ × List ℕ)) (whole : List ℕ → Bool)
    → ((t : List ℕ) → (list_any (at_label x t) ((k, v) ∷ rest) || set.contains now t) ≡ whole t)
    → ((t : List ℕ) → set.contains mid t ≡ (has_key (get x.by_key k) t || set.contains now t))
    → ((t : List ℕ) → set.contains next t ≡ (has_pair (get x.by_value k) (v, t) || set.contains mid t))
    → (t : List ℕ) → (list_any (at_label x t) rest || set.contains next t) ≡ whole t
label_next x now mid next k v rest whole h by_key by_value t =
    ap (λ b. list_any (at_label x t) rest || b) (by_value t ∙ ap (λ b. has_pair (get x.by_value k) (v, t) || b) (by_key t))
    ∙ sym (both_joined (has_key (get x.by_key k) t) (has_pair (get x.by_value k) (v, t)) (list_any (at_label x t) rest) (set.contains now t)) ∙ h t

-- ---- a text under each of several values
grouped : (a b c : Bool) → (a && (b && c)) ≡ ((a && b) && c)
grouped true b c = refl
grouped false b c = refl

abbrev pub needing : List ℕ → Option (List (List ℕ)) → Option Need
needing key values = Some (record { key = key; values = values })

pub values_changed : (x : TextsByNeed) (rows : FinMap (slice_cmp nat_cmp) TextGroups) (key : List ℕ) (values : List (List ℕ)) (text : List ℕ) (b : Bool)
    → ((k : List ℕ) (p : List ℕ × List ℕ) → has_pair (get rows k) p ≡ cond (same_text k key && (is_among values p.0 && same_text p.1 text)) b (has_pair (get x.by_value k) p))
    → (s : Spot) (t : List ℕ) → at (record x { by_value = rows }) s t ≡ cond (stands_by key (Some values) s && same_text t text) b (at x s t)
values_changed x rows key values text b h free t = refl
values_changed x rows key values text b h (at_key k) t = refl
values_changed x rows key values text b h (at_value k v) t =
    h k (v, t) ∙ ap (λ c. cond c b (has_pair (get x.by_value k) (v, t))) (grouped (same_text k key) (is_among values v) (same_text t text))

pub nothing_more : (b : Bool) → (b || false) ≡ b
nothing_more true = refl
nothing_more false = refl

-- nothing is at any key
pub empty_at : {K X : Type 0} {R : K → K → Ordering} (m : FinMap R X) → entries m ≡ [] → (k : K) → get m k ≡ None
empty_at {R = R} m h k = get-entries m k ∙ ap (find R k) h
