-- Effective labels, as an item or a parent changes.
use Rattle.std.proofs.Common.{◌≡◌, ℕ, Bool, true, false, cond, ◌||◌, nat_eq, List, [], ◌∷◌, Option, Some, None, is_some, IsSome, refl, sym, ap, ◌∙◌}
use Rattle.std.specs.Ordering.{is_eq}
use Rattle.std.specs.Cmp.{tied_itself}
use Rattle.std.specs.Cmp.Lexicographic.{pointwise, texts_ties}
use Rattle.std.specs.FinMap.{entries, get, insert, remove, get-insert, get-remove, get-entries}
use Rattle.fx_base.specs.Set as set
use Rattle.fx_base.specs.Same.{same_bytes, same_finite, same_option}
use Rattle.fx_base.proofs.AtKey.{get_insert, get_remove, insert_same}
use Rattle.fx_base.proofs.Walk.{IsRest, IsHalf, IsRest-head, IsHalf-head, IsHalf-next}
use Rattle.fx_selector.specs.Truth.{LabelMap, is_among}
use Rattle.fx_label_rows.specs.Labelled.{ItemSet, LabelsByItem}
use Rattle.fx_model.specs.Labels.{over, over_others, inherited, effective}
use Rattle.fx_model.proofs.Orders.{item_total, exact_item}
use Rattle.fx_model.specs.declared.ids.ItemKey.{ItemKey}
use Rattle.fx_model.specs.contracts.ids.ItemKeyOrd.TheImpl.{cmp-value}
use Rattle.fx_label_index.specs.Indexed.{lists}
use Rattle.fx_label_index.specs.Tested.{same_map, same_labels}
use Rattle.fx_label_index.specs.Matched.{Items, Parents, ParentMap, labels_of, item_eq}
use Rattle.fx_label_index.specs.declared.held.Held.{Held}

-- labels that `==` doesn't tell apart are one
pub labels_same : (o : Option LabelMap) (m : LabelMap) → same_labels o (Some m) ≡ true → o ≡ Some m
labels_same o m h = same_option same_map (same_finite (pointwise nat_eq) (pointwise nat_eq) same_bytes same_bytes) o (Some m) h

-- and putting them changes nothing
pub labels_stay : (labels : LabelsByItem) (key : ItemKey) (m : LabelMap) → same_labels (get labels key) (Some m) ≡ true → labels ≡ insert labels key m
labels_stay labels key m h = sym (insert_same item_total exact_item labels key m (labels_same (get labels key) m h))

abbrev pub AreEffective : LabelsByItem → Parents → Items → Type 0
AreEffective labels parents items = (i : ItemKey) → get labels i ≡ labels_of parents (get items i)

-- ---- one item
module _ (labels : LabelsByItem) (parents : Parents) (items : Items) (key : ItemKey) (are : AreEffective labels parents items) where
  pub effective_put : (m : LabelMap) (held : Held) (now : LabelsByItem) (then : Items) → Some m ≡ labels_of parents (Some held) → now ≡ insert labels key m → then ≡ insert items key held → AreEffective now parents then
  effective_put m held now then is put there i =
      ap (λ l. get l i) put ∙ get-insert item_total labels key m i
      ∙ elim (item_eq i key) as (λ b. cond b (Some m) (get labels i) ≡ labels_of parents (cond b (Some held) (get items i))) [ true ↦ is | false ↦ are i ]
      ∙ ap (labels_of parents) (sym (get-insert item_total items key held i)) ∙ ap (λ s. labels_of parents (get s i)) (sym there)

  pub effective_gone : (now : LabelsByItem) (then : Items) → now ≡ remove labels key → then ≡ remove items key → AreEffective now parents then
  effective_gone now then gone is i =
      ap (λ l. get l i) gone ∙ get-remove item_total labels key i
      ∙ elim (item_eq i key) as (λ b. cond b None (get labels i) ≡ labels_of parents (cond b None (get items i))) [ true ↦ refl | false ↦ are i ]
      ∙ ap (labels_of parents) (sym (get-remove item_total items key i)) ∙ ap (λ s. labels_of parents (get s i)) (sym is)

-- ---- one parent
neither : (a b : Bool) → (a || b) ≡ false → (a ≡ false) × (b ≡ false)
neither true b h = cc
neither false b h = (refl, h)

-- parents that agree but for one name
abbrev pub AgreeBut : List ℕ → Parents → Parents → Type 0
AgreeBut name p q = (r : List ℕ) → pointwise nat_eq r name ≡ false → p r ≡ q r

unlisted : (p q : Parents) (name : List ℕ) → AgreeBut name p q → (names : List (List ℕ)) → is_among names name ≡ false → inherited p names ≡ inherited q names
unlisted p q name agree [] h = refl
unlisted p q name agree (r ∷ names) h =
    let parts = neither (pointwise nat_eq r name) (is_among names name) h in
    ap (λ o. over_others o (inherited p names)) (agree r parts.0) ∙ ap (over_others (q r)) (unlisted p q name agree names parts.1)

-- labels of an item that doesn't list it
pub labels_unlisted : (p q : Parents) (name : List ℕ) → AgreeBut name p q → (o : Option Held) → lists o name ≡ false → labels_of p o ≡ labels_of q o
labels_unlisted p q name agree None h = refl
labels_unlisted p q name agree (Some held) h = ap (λ m. Some (over held.labels m)) (unlisted p q name agree held.parents h)

pub agree_put : (m now : ParentMap) (name : List ℕ) (labels : LabelMap) → now ≡ insert m name labels → AgreeBut name (get m) (get now)
agree_put m now name labels is r other = ap (λ b. cond b (Some labels) (get m r)) (sym other ∙ texts_ties r name) ∙ sym (get_insert m name labels r) ∙ ap (λ p. get p r) (sym is)

pub agree_gone : (m now : ParentMap) (name : List ℕ) → now ≡ remove m name → AgreeBut name (get m) (get now)
agree_gone m now name is r other = ap (λ b. cond b None (get m r)) (sym other ∙ texts_ties r name) ∙ sym (get_remove m name r) ∙ ap (λ p. get p r) (sym is)

-- ---- a walk over the items that list a parent
pub item_listed : (o : Option Held) (name : List ℕ) → lists o name ≡ true → IsSome o
item_listed None name h = cc
item_listed (Some held) name h = refl

-- the items that are left have the labels that they had, the others those that they are to have
abbrev pub HalfLabelled : LabelsByItem → Parents → Items → LabelsByItem → List (ItemKey × Unit {0}) → Type 0
HalfLabelled old parents items now es = IsHalf cmp-value.it (λ (i : ItemKey) (_ : Unit {0}). get old i) (λ i _. labels_of parents (get items i)) (λ i _. get now i) es

module _ (old : LabelsByItem) (parents : Parents) (items : Items) (listed : ItemSet) where
  labelled_if : (b : Bool) (x y : Option LabelMap) → (b ≡ false → x ≡ y) → x ≡ cond b x y
  labelled_if true x y h = refl
  labelled_if false x y h = h refl

  pub labelled-start : ((i : ItemKey) → set.contains listed i ≡ false → get old i ≡ labels_of parents (get items i)) → HalfLabelled old parents items old (entries listed)
  labelled-start others = record {
    at = λ i _.
        labelled_if (set.contains listed i) (get old i) (labels_of parents (get items i)) (others i)
        ∙ ap (λ b. cond b (get old i) (labels_of parents (get items i))) (ap is_some (get-entries listed i));
  }

  pub labelled-head : (now : LabelsByItem) (e : ItemKey × Unit {0}) (es : List (ItemKey × Unit {0})) → HalfLabelled old parents items now (e ∷ es) → get now e.0 ≡ get old e.0
  labelled-head now e es h = IsHalf-head item_total exact_item (λ i _. get old i) (λ i _. labels_of parents (get items i)) (λ i _. get now i) e es h tt

  pub labelled-next : (now next : LabelsByItem) (e : ItemKey × Unit {0}) (es : List (ItemKey × Unit {0})) (after : LabelMap) → IsRest listed (e ∷ es) → HalfLabelled old parents items now (e ∷ es) → labels_of parents (get items e.0) ≡ Some after → next ≡ insert now e.0 after → HalfLabelled old parents items next es
  labelled-next now next e es after w h is put =
      let step : (i : ItemKey) → get next i ≡ cond (item_eq i e.0) (Some after) (get now i) = λ i. ap (λ l. get l i) put ∙ get-insert item_total now e.0 after i in
      IsHalf-next item_total exact_item (λ i _. get old i) (λ i _. labels_of parents (get items i)) listed (λ i _. get now i) (λ i _. get next i) e es w h
      (λ _. step e.0 ∙ ap (λ r. cond (is_eq r) (Some after) (get now e.0)) (tied_itself item_total e.0) ∙ sym is)
      (λ i _ other. step i ∙ ap (λ b. cond b (Some after) (get now i)) other)

pub in_walk : (listed : ItemSet) (e : ItemKey × Unit {0}) (es : List (ItemKey × Unit {0})) → IsRest listed (e ∷ es) → set.contains listed e.0 ≡ true
in_walk listed e es w = ap is_some (IsRest-head item_total listed e es w)

-- an item that is there has effective labels
pub effective_there : (parents : Parents) (o : Option Held) → IsSome o → (m : LabelMap) × (labels_of parents o ≡ Some m)
effective_there parents None h = cc
effective_there parents (Some held) h = (effective parents held.labels held.parents, refl)

pub the_labels : (l m : LabelMap) → Some l ≡ Some m → l ≡ m
the_labels l m e = cc
