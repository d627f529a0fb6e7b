-- An item that moves from under some labels to others, label by label.
use Rattle.std.proofs.Common.{◌≡◌, ℕ, Bool, true, false, cond, ◌&&◌, ◌||◌, not, List, ◌∷◌, Some, refl, ap, ◌∙◌}
use Rattle.std.specs.Cmp.{eq_by_cmp_equiv}
use Rattle.std.specs.Cmp.Lexicographic.{nat_list_cmp_total, texts_ties}
use Rattle.std.specs.FinMap as map
use Rattle.fx_base.proofs.Cases.{equal}
use Rattle.fx_base.specs.Grouped.{same_text}
use Rattle.fx_base.specs.Same.{both_pass, same_bytes}
use Rattle.fx_selector.specs.Truth.{LabelMap}
use Rattle.fx_model.proofs.Orders.{exact_item}
use Rattle.fx_model.specs.declared.ids.ItemKey.{ItemKey}
use Rattle.fx_model.specs.contracts.ids.ItemKeyOrd.TheImpl.{cmp-value}
use Rattle.fx_label_rows.specs.Labelled.{LabelGroups, same_item, has_both, has_entry, has_label}

-- ---- keys

one_text : (t u : List ℕ) → same_text t u ≡ true → t ≡ u
one_text t u e = same_bytes t u (texts_ties t u ∙ e)

pub one_item : (i k : ItemKey) → same_item i k ≡ true → i ≡ k
one_item i k e = exact_item i k (equal (cmp-value.it i k) e)

-- whether the others have a label that is this one
pub at_one : (others : LabelMap) (k key v value : List ℕ) (has : Bool) → has_label (Some others) key value ≡ has → (same_text k key && same_text v value) ≡ true → has_label (Some others) k v ≡ has
at_one others k key v value has is both =
    let p = both_pass (same_text k key) (same_text v value) both in
    (λ i. has_label (Some others) (one_text k key p.0 i) (one_text v value p.1 i)) ∙ is

-- ---- one label

-- x that the label is this one, y that the others have it, t that the item is this one
pub unless_same : (x y t b n : Bool) → (x ≡ true → y ≡ true) → n ≡ cond ((x && not y) && t) b n
unless_same true true t b n h = refl
unless_same true false t b n h = let wrong : false ≡ true = h refl in cc
unless_same false y t b n h = refl

pub unless_other : (a s y t b n : Bool) → ((a && s) ≡ true → y ≡ false) → cond (a && (s && t)) b n ≡ cond (((a && s) && not y) && t) b n
unless_other true true true t b n h = let wrong : true ≡ false = h refl in cc
unless_other true true false t b n h = refl
unless_other true false y t b n h = refl
unless_other false s y t b n h = refl

-- ---- a walk over labels

guarded : (x l g t b n : Bool) → cond ((l && g) && t) b (cond ((x && g) && t) b n) ≡ cond (((x || l) && g) && t) b n
guarded true true true true b n = refl
guarded true true true false b n = refl
guarded true true false t b n = refl
guarded true false true true b n = refl
guarded true false true false b n = refl
guarded true false false t b n = refl
guarded false true true true b n = refl
guarded false true true false b n = refl
guarded false true false t b n = refl
guarded false false g t b n = refl

pub other_next : (now next : LabelGroups) (key value : List ℕ) (others : LabelMap) (item : ItemKey) (b : Bool) (rest : List (List ℕ × List ℕ)) (whole : List ℕ → List ℕ × ItemKey → Bool)
    → ((k : List ℕ) (p : List ℕ × ItemKey) → cond ((has_entry ((key, value) ∷ rest) k p.0 && not (has_label (Some others) k p.0)) && same_item p.1 item) b (has_both (map.get now k) p) ≡ whole k p)
    → ((k : List ℕ) (p : List ℕ × ItemKey) → has_both (map.get next k) p ≡ cond (((same_text k key && same_text p.0 value) && not (has_label (Some others) k p.0)) && same_item p.1 item) b (has_both (map.get now k) p))
    → (k : List ℕ) (p : List ℕ × ItemKey) → cond ((has_entry rest k p.0 && not (has_label (Some others) k p.0)) && same_item p.1 item) b (has_both (map.get next k) p) ≡ whole k p
other_next now next key value others item b rest whole h is k p =
    let l = has_entry rest k p.0 in
    let g = not (has_label (Some others) k p.0) in
    let t = same_item p.1 item in
    let n = has_both (map.get now k) p in
    ap (cond ((l && g) && t) b) (is k p) ∙ guarded (same_text k key && same_text p.0 value) l g t b n
    ∙ ap (λ a. cond ((((a && same_text p.0 value) || l) && g) && t) b n) ((eq_by_cmp_equiv nat_list_cmp_total).symm k key) ∙ h k p

-- ---- both walks

-- a that the item has a label, b that it had it, s that the item is this one
pub exchanged : (a b s n : Bool) → (s ≡ true → n ≡ b) → cond ((a && not b) && s) true (cond ((b && not a) && s) false n) ≡ cond s a n
exchanged true true true n h = h refl
exchanged true false true n h = refl
exchanged false true true n h = refl
exchanged false false true n h = h refl
exchanged true true false n h = refl
exchanged true false false n h = refl
exchanged false true false n h = refl
exchanged false false false n h = refl
