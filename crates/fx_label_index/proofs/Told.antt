-- What a sink is told as the texts of one item change, or one text on several items.
use Rattle.std.proofs.Common.{◌≡◌, ℕ, Bool, true, false, cond, ◌&&◌, ◌||◌, List, ◌∷◌, map, Option, Some, None, is_some, unwrap_or, refl, sym, ap, ◌∙◌}
use Rattle.std.specs.declared.cmp.Ordering.TheVariants.{Less, Equal, Greater}
use Rattle.std.specs.Ordering.{nat_cmp, is_eq}
use Rattle.std.specs.Cmp.{tied_itself}
use Rattle.std.specs.List.{list_any}
use Rattle.std.specs.Cmp.Lexicographic.{slice_cmp, nat_list_cmp_total}
use Rattle.std.specs.FinMap.{empty, entries, get, insert, remove, get-entries, get-insert, get-remove}
use Rattle.fx_base.specs.Set as set
use Rattle.fx_base.specs.Grouped.{Texts, has_key, same_text}
use Rattle.fx_base.proofs.AtKey.{get_empty}
use Rattle.fx_base.proofs.KeyCases.{bytes_exact}
use Rattle.fx_base.proofs.Walk.{IsRest, IsHalf, IsRest-head, IsHalf-head, IsHalf-next}
use Rattle.fx_model.specs.Pairs.{Pairs, put}
use Rattle.fx_model.proofs.PairAt.{contains_put_pair}
use Rattle.fx_model.proofs.Orders.{item_total, exact_item}
use Rattle.fx_model.specs.declared.ids.ItemKey.{ItemKey}
use Rattle.fx_model.specs.contracts.ids.ItemKeyOrd.TheImpl.{cmp-value}
use Rattle.fx_label_index.specs.Indexed.{TextsByItem, AreTold}
use Rattle.fx_label_index.specs.Matched.{item_eq, text_eq}

abbrev pub has : Pairs → List ℕ → ItemKey → Bool
has s t i = set.contains s (t, i)

-- what is to stand
abbrev pub set_now : Texts → ItemKey → Texts → Pairs → List ℕ → ItemKey → Bool
set_now texts key stands old t i = cond (set.contains texts t && item_eq i key) (set.contains stands t) (has old t i)

abbrev pub HalfSet : Texts → ItemKey → Texts → Pairs → Pairs → List (List ℕ × Unit {0}) → Type 0
HalfSet texts key stands old now es = IsHalf (slice_cmp nat_cmp) (has old) (set_now texts key stands old) (has now) es

split : (o : Option (Unit {0})) (e b n : Bool) → n ≡ cond (is_some o) n (cond (is_some o && e) b n)
split None e b n = refl
split (Some x) e b n = refl

module _ (texts : Texts) (key : ItemKey) (stood stands : Texts) (old : Pairs) (req : (t : List ℕ) → set.contains texts t ≡ true → set.contains old (t, key) ≡ set.contains stood t) where
  pub set-start : HalfSet texts key stands old old (entries texts)
  set-start = record {
    at = λ t i.
        split (get texts t) (item_eq i key) (set.contains stands t) (has old t i)
        ∙ ap (λ o. cond (is_some o) (has old t i) (set_now texts key stands old t i)) (get-entries texts t);
  }

  pub set-stood : (now : Pairs) (e : List ℕ × Unit {0}) (es : List (List ℕ × Unit {0})) → IsRest texts (e ∷ es) → HalfSet texts key stands old now (e ∷ es) → set.contains now (e.0, key) ≡ set.contains stood e.0
  set-stood now e es w h =
      IsHalf-head nat_list_cmp_total bytes_exact (has old) (set_now texts key stands old) (has now) e es h key
      ∙ req e.0 (ap is_some (IsRest-head nat_list_cmp_total texts e es w))

  pub set-next : (now next : Pairs) (e : List ℕ × Unit {0}) (es : List (List ℕ × Unit {0})) (b : Bool) → IsRest texts (e ∷ es) → HalfSet texts key stands old now (e ∷ es) → b ≡ set.contains stands e.0 → next ≡ put now (e.0, key) b → HalfSet texts key stands old next es
  set-next now next e es b w h is changed =
      let c : Bool = set.contains stands e.0 in
      let step : (t : List ℕ) (i : ItemKey) → has next t i ≡ cond (same_text t e.0 && item_eq i key) c (has now t i) =
      λ t i. ap (λ s. has s t i) (changed ∙ ap (put now (e.0, key)) is) ∙ contains_put_pair now e.0 key c t i in
      IsHalf-next nat_list_cmp_total bytes_exact (has old) (set_now texts key stands old) texts (has now) (has next) e es w h
      (λ i. step e.0 i
      ∙ ap (λ r. cond (is_eq r && item_eq i key) c (has now e.0 i)) (tied_itself nat_list_cmp_total e.0)
      ∙ ap (cond (item_eq i key) c) (IsHalf-head nat_list_cmp_total bytes_exact (has old) (set_now texts key stands old) (has now) e es h i)
      ∙ ap (λ there. cond (there && item_eq i key) c (has old e.0 i)) (sym (ap is_some (IsRest-head nat_list_cmp_total texts e es w))))
      (λ t i n. step t i ∙ ap (λ there. cond (there && item_eq i key) c (has now t i)) n)

-- ---- the two walks
module _ (key : ItemKey) (before after : Texts) (old mid : Pairs) (req : (t : List ℕ) → set.contains old (t, key) ≡ set.contains before t)
    (first : (t : List ℕ) (i : ItemKey) → has mid t i ≡ set_now after key after old t i) where
  stays : (a b : Bool) → b ≡ true → cond (a && true) a b ≡ b
  stays true b h = sym h
  stays false b h = refl

  pub then_stood : (t : List ℕ) → set.contains before t ≡ true → set.contains mid (t, key) ≡ set.contains before t
  then_stood t h =
      first t key ∙ ap (λ r. cond (set.contains after t && is_eq r) (set.contains after t) (has old t key)) (tied_itself item_total key)
      ∙ ap (cond (set.contains after t && true) (set.contains after t)) (req t) ∙ stays (set.contains after t) (set.contains before t) h

  both : (a b n : Bool) → n ≡ b → cond (b && true) a (cond (a && true) a n) ≡ a
  both a true n h = refl
  both true false n h = refl
  both false false n h = h

  neither : (a b n : Bool) → cond (b && false) a (cond (a && false) a n) ≡ n
  neither true true n = refl
  neither true false n = refl
  neither false true n = refl
  neither false false n = refl

  pub told : (new : Pairs) → ((t : List ℕ) (i : ItemKey) → has new t i ≡ cond (set.contains before t && item_eq i key) (set.contains after t) (has mid t i)) → (t : List ℕ) (i : ItemKey) → has new t i ≡ cond (item_eq i key) (set.contains after t) (has old t i)
  told new second t i =
      let a = set.contains after t in
      let b = set.contains before t in
      second t i ∙ ap (cond (b && item_eq i key) a) (first t i)
      ∙ elim (cmp-value.it i key) as (λ r. cmp-value.it i key ≡ r → cond (b && is_eq r) a (cond (a && is_eq r) a (has old t i)) ≡ cond (is_eq r) a (has old t i)) [
        | Less ↦ λ e. neither a b (has old t i)
        | Greater ↦ λ e. neither a b (has old t i)
        | Equal ↦ λ e. both a b (has old t i) (ap (has old t) (exact_item i key e) ∙ req t)
      ] refl

-- ---- the texts that are kept for the item
pub none_there : (t : List ℕ) → set.contains {R = slice_cmp nat_cmp} set.empty t ≡ false
none_there t = ap is_some (get_empty t)

pub texts_found : (o : Option Texts) (texts : Texts) (t : List ℕ) → texts ≡ unwrap_or o empty → set.contains texts t ≡ has_key o t
texts_found None texts t is = ap (λ s. set.contains s t) is ∙ none_there t
texts_found (Some s) texts t is = ap (λ s. set.contains s t) is

module _ (rows : TextsByItem) (key : ItemKey) (old new : Pairs) (are : AreTold old rows) where
  pub before_stood : (before : Texts) → before ≡ unwrap_or (get rows key) empty → (t : List ℕ) → set.contains old (t, key) ≡ set.contains before t
  before_stood before is t = are t key ∙ sym (texts_found (get rows key) before t is)

  pub told_put : (after : Texts) (now : TextsByItem) → ((t : List ℕ) (i : ItemKey) → has new t i ≡ cond (item_eq i key) (set.contains after t) (has old t i)) → now ≡ insert rows key after → AreTold new now
  told_put after now step is t i =
      step t i ∙ ap (cond (item_eq i key) (set.contains after t)) (are t i)
      ∙ elim (item_eq i key) as (λ b. cond b (set.contains after t) (has_key (get rows i) t) ≡ has_key (cond b (Some after) (get rows i)) t) [ true ↦ refl | false ↦ refl ]
      ∙ ap (λ o. has_key o t) (sym (get-insert item_total rows key after i)) ∙ ap (λ r. has_key (get r i) t) (sym is)

  pub told_gone : (after : Texts) (now : TextsByItem) → ((t : List ℕ) (i : ItemKey) → has new t i ≡ cond (item_eq i key) (set.contains after t) (has old t i)) → after ≡ set.empty → now ≡ remove rows key → AreTold new now
  told_gone after now step none is t i =
      step t i ∙ ap (cond (item_eq i key) (set.contains after t)) (are t i) ∙ ap (λ b. cond (item_eq i key) b (has_key (get rows i) t)) (ap (λ s. set.contains s t) none ∙ none_there t)
      ∙ elim (item_eq i key) as (λ b. cond b false (has_key (get rows i) t) ≡ has_key (cond b None (get rows i)) t) [ true ↦ refl | false ↦ refl ]
      ∙ ap (λ o. has_key o t) (sym (get-remove item_total rows key i)) ∙ ap (λ r. has_key (get r i) t) (sym is)

  -- ---- one text
  turned : (a b s n : Bool) → cond (a && b) s n ≡ cond (b && a) s n
  turned true true s n = refl
  turned true false s n = refl
  turned false true s n = refl
  turned false false s n = refl

  pub told_one : (text : List ℕ) (b : Bool) (now : TextsByItem) → new ≡ put old (text, key) b → ((i : ItemKey) (t : List ℕ) → has_key (get now i) t ≡ cond (item_eq i key && text_eq t text) b (has_key (get rows i) t)) → AreTold new now
  told_one text b now changed step t i =
      ap (λ s. has s t i) changed ∙ contains_put_pair old text key b t i ∙ ap (cond (text_eq t text && item_eq i key) b) (are t i)
      ∙ turned (text_eq t text) (item_eq i key) b (has_key (get rows i) t) ∙ sym (step i t)

-- ---- one text on several items
merged : (s l t b n : Bool) → cond (l && t) b (cond (s && t) b n) ≡ cond ((s || l) && t) b n
merged true true true b n = refl
merged true true false b n = refl
merged true false true b n = refl
merged true false false b n = refl
merged false true true b n = refl
merged false true false b n = refl
merged false false t b n = refl

-- with those that are left, the texts are as they are to be
abbrev pub SetLeft : List (ItemKey × Unit {0}) → List ℕ → Bool → TextsByItem → (ItemKey → List ℕ → Bool) → Type 0
SetLeft es text b now whole = (i : ItemKey) (t : List ℕ) → cond (list_any (item_eq i) (map (λ e. e.0) es) && text_eq t text) b (has_key (get now i) t) ≡ whole i t

pub set_one_more : (now next : TextsByItem) (e : ItemKey × Unit {0}) (es : List (ItemKey × Unit {0})) (text : List ℕ) (b : Bool) (whole : ItemKey → List ℕ → Bool) → SetLeft (e ∷ es) text b now whole
    → ((i : ItemKey) (t : List ℕ) → has_key (get next i) t ≡ cond (item_eq i e.0 && text_eq t text) b (has_key (get now i) t)) → SetLeft es text b next whole
set_one_more now next e es text b whole h step i t =
    let later = list_any (item_eq i) (map (λ e. e.0) es) in
    ap (cond (later && text_eq t text) b) (step i t) ∙ merged (item_eq i e.0) later (text_eq t text) b (has_key (get now i) t) ∙ h i t
