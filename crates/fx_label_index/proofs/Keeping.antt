-- The texts that hold on items, as an item or a selector comes or goes.
use Rattle.std.proofs.Common.{◌≡◌, ℕ, ◌+◌, ◌-◌, Bool, true, false, cond, ◌&&◌, nat_lt, List, Option, Some, None, is_some, refl, sym, ap, ◌∙◌}
use Rattle.std.specs.declared.cmp.Ordering.TheVariants.{Less, Equal, Greater}
use Rattle.std.specs.Ordering.{nat_cmp, is_eq}
use Rattle.std.specs.Cmp.Lexicographic.{slice_cmp, nat_list_cmp_total}
use Rattle.std.specs.FinMap.{get, insert, remove, get-insert, get-remove}
use Rattle.fx_base.specs.Set as set
use Rattle.fx_base.specs.Grouped.{Texts, has_key}
use Rattle.fx_base.specs.Extended.{put_or_removed}
use Rattle.fx_base.proofs.KeyCases.{bytes_exact}
use Rattle.fx_selector.specs.Tree.{Tree}
use Rattle.fx_selector.specs.Truth.{LabelMap, holds}
use Rattle.fx_selector.proofs.Needing.{holding}
use Rattle.fx_label_rows.specs.Labelled.{ItemSet, LabelsByItem}
use Rattle.fx_model.proofs.Orders.{item_total}
use Rattle.fx_model.specs.declared.ids.ItemKey.{ItemKey}
use Rattle.fx_label_index.specs.Canonicals.{Selectors}
use Rattle.fx_label_index.specs.Counts.{uses_in, last_of, raised, lowered_in, lowered}
use Rattle.fx_label_index.specs.Indexed.{TextsByItem}
use Rattle.fx_label_index.specs.Tested.{met_on}
use Rattle.fx_label_index.specs.Matched.{tests, holds_on, item_eq, text_eq}
use Rattle.fx_label_index.specs.declared.counted.Counted.{Counted}

-- the texts of each item are those that hold on its labels
abbrev pub AreHolding : Selectors → LabelsByItem → TextsByItem → Type 0
AreHolding selectors labels texts = (i : ItemKey) (t : List ℕ) → has_key (get texts i) t ≡ tests (get selectors t) (get labels i)

-- on no labels
pub on_nothing : (o : Option Counted) → tests o None ≡ false
on_nothing None = refl
on_nothing (Some counted) = refl

-- ---- one item
module _ (selectors : Selectors) (labels : LabelsByItem) (texts : TextsByItem) (key : ItemKey) (is : AreHolding selectors labels texts) where
  pub item_put : (after : LabelMap) (held : Texts) (now : LabelsByItem) (rows : TextsByItem) → ((t : List ℕ) → set.contains held t ≡ tests (get selectors t) (Some after)) → now ≡ insert labels key after → rows ≡ insert texts key held → AreHolding selectors now rows
  item_put after held now rows answers put told i t =
      ap (λ r. has_key (get r i) t) told ∙ ap (λ o. has_key o t) (get-insert item_total texts key held i)
      ∙ elim (item_eq i key) as (λ b. has_key (cond b (Some held) (get texts i)) t ≡ tests (get selectors t) (cond b (Some after) (get labels i))) [ true ↦ answers t | false ↦ is i t ]
      ∙ ap (tests (get selectors t)) (sym (get-insert item_total labels key after i)) ∙ ap (λ l. tests (get selectors t) (get l i)) (sym put)

  pub item_gone : (now : LabelsByItem) (rows : TextsByItem) → now ≡ remove labels key → rows ≡ remove texts key → AreHolding selectors now rows
  item_gone now rows gone told i t =
      ap (λ r. has_key (get r i) t) told ∙ ap (λ o. has_key o t) (get-remove item_total texts key i)
      ∙ elim (item_eq i key) as (λ b. has_key (cond b None (get texts i)) t ≡ tests (get selectors t) (cond b None (get labels i))) [ true ↦ sym (on_nothing (get selectors t)) | false ↦ is i t ]
      ∙ ap (tests (get selectors t)) (sym (get-remove item_total labels key i)) ∙ ap (λ l. tests (get selectors t) (get l i)) (sym gone)

-- ---- one selector
is_none : {A : Type 0} {B : Type 0} (x : A) → Some x ≡ None → B
is_none x e = cc

no_some : {A : Type 0} {B : Type 0} (x : A) → None ≡ Some x → B
no_some x e = cc

the_tree : (t u : Tree) → Some t ≡ Some u → t ≡ u
the_tree t u e = cc

last_tests : (o : Option Counted) (tree : Tree) (labels : Option LabelMap) → last_of o ≡ Some tree → tests o labels ≡ holds_on tree labels
last_tests None tree labels e = no_some tree e
last_tests (Some c) tree labels e = elim (nat_lt 1 c.uses) as (λ b. cond b None (Some c.selector) ≡ Some tree → holds_on c.selector labels ≡ holds_on tree labels) [
  | true ↦ λ p. no_some tree p
  | false ↦ λ p. ap (λ t. holds_on t labels) (the_tree c.selector tree p)
] e

last_lowered : (o : Option Counted) (tree : Tree) → last_of o ≡ Some tree → lowered_in o ≡ None
last_lowered None tree e = refl
last_lowered (Some c) tree e = elim (nat_lt 1 c.uses) as (λ b. cond b None (Some c.selector) ≡ Some tree → cond b (Some (record c { uses = c.uses - 1 })) None ≡ None) [
  | true ↦ λ p. no_some tree p
  | false ↦ λ p. refl
] e

kept_tests : (o : Option Counted) (labels : Option LabelMap) → last_of o ≡ None → tests o labels ≡ tests (lowered_in o) labels
kept_tests None labels e = refl
kept_tests (Some c) labels e = elim (nat_lt 1 c.uses) as (λ b. cond b None (Some c.selector) ≡ None → holds_on c.selector labels ≡ tests (cond b (Some (record c { uses = c.uses - 1 })) None) labels) [
  | true ↦ λ p. refl
  | false ↦ λ p. is_none c.selector p
] e

again_tests : (o : Option Counted) (tree : Tree) (uses : ℕ) (labels : Option LabelMap) → is_some o ≡ true → ((counted : Counted) → o ≡ Some counted → counted.selector ≡ tree) → tests o labels ≡ tests (Some (record { selector = tree; uses = uses })) labels
again_tests None tree uses labels h same = cc
again_tests (Some c) tree uses labels h same = ap (λ t. holds_on t labels) (same c refl)

pub absent : (o : Option Counted) → is_some o ≡ false → o ≡ None
absent None h = refl
absent (Some c) h = cc

-- labels on which a selector holds are met
pub holding_met : (tree : Tree) (labels : Option LabelMap) → met_on tree labels ≡ false → holds_on tree labels ≡ false
holding_met tree None h = refl
holding_met tree (Some m) h = elim (holds tree m) as (λ b. holds tree m ≡ b → b ≡ false) [
  | true ↦ λ p. let e : true ≡ false = sym (holding tree m p) ∙ h in cc
  | false ↦ λ p. refl
] refl

module _ (selectors : Selectors) (labels : LabelsByItem) (texts : TextsByItem) (text : List ℕ) (is : AreHolding selectors labels texts) where
  -- one text has another selector
  moved : (now : Selectors) (rows : TextsByItem) (o : Option Counted) → ((t : List ℕ) → get now t ≡ cond (text_eq t text) o (get selectors t)) → ((i : ItemKey) (t : List ℕ) → has_key (get rows i) t ≡ cond (text_eq t text) (tests o (get labels i)) (has_key (get texts i) t)) → AreHolding now labels rows
  moved now rows o got put i t =
      put i t
      ∙ elim (text_eq t text) as (λ b. cond b (tests o (get labels i)) (has_key (get texts i) t) ≡ tests (cond b o (get selectors t)) (get labels i)) [ true ↦ refl | false ↦ is i t ]
      ∙ ap (λ c. tests c (get labels i)) (sym (got t))

  -- it holds where it held
  unmoved : (o : Option Counted) → ((m : Option LabelMap) → tests (get selectors text) m ≡ tests o m) → (i : ItemKey) (t : List ℕ) → has_key (get texts i) t ≡ cond (text_eq t text) (tests o (get labels i)) (has_key (get texts i) t)
  unmoved o same i t =
      elim (slice_cmp nat_cmp t text) as (λ r. slice_cmp nat_cmp t text ≡ r → has_key (get texts i) t ≡ cond (is_eq r) (tests o (get labels i)) (has_key (get texts i) t)) [
        | Less ↦ λ e. refl
        | Greater ↦ λ e. refl
        | Equal ↦ λ e. ap (has_key (get texts i)) (bytes_exact t text e) ∙ is i text ∙ same (get labels i)
      ] refl

  -- it was set on some items
  set_on : (o : Option Counted) (items : ItemSet) (b : Bool) (rows : TextsByItem) → ((i : ItemKey) (t : List ℕ) → has_key (get rows i) t ≡ cond (set.contains items i && text_eq t text) b (has_key (get texts i) t))
      → ((i : ItemKey) → cond (set.contains items i) b (tests (get selectors text) (get labels i)) ≡ tests o (get labels i))
      → (i : ItemKey) (t : List ℕ) → has_key (get rows i) t ≡ cond (text_eq t text) (tests o (get labels i)) (has_key (get texts i) t)
  set_on o items b rows told row i t =
      told i t
      ∙ elim (slice_cmp nat_cmp t text) as (λ r. slice_cmp nat_cmp t text ≡ r → cond (set.contains items i && is_eq r) b (has_key (get texts i) t) ≡ cond (is_eq r) (tests o (get labels i)) (has_key (get texts i) t)) [
        | Less ↦ λ e. elsewhere (set.contains items i) (has_key (get texts i) t)
        | Greater ↦ λ e. elsewhere (set.contains items i) (has_key (get texts i) t)
        | Equal ↦ λ e. here (set.contains items i) (has_key (get texts i) t) ∙ ap (cond (set.contains items i) b) (ap (has_key (get texts i)) (bytes_exact t text e) ∙ is i text) ∙ row i
      ] refl
    where
      elsewhere : (a c : Bool) → cond (a && false) b c ≡ c
      elsewhere true c = refl
      elsewhere false c = refl

      here : (a c : Bool) → cond (a && true) b c ≡ cond a b c
      here true c = refl
      here false c = refl

  abbrev more : Tree → Counted
  more tree = record { selector = tree; uses = uses_in (get selectors text) + 1 }

  get_raised : (tree : Tree) (t : List ℕ) → get (raised selectors text tree) t ≡ cond (text_eq t text) (Some (more tree)) (get selectors t)
  get_raised tree t = get-insert nat_list_cmp_total selectors text (more tree) t

  one : (b : Bool) → cond b true false ≡ b
  one true = refl
  one false = refl

  -- a selector that is new holds on these items
  pub selector_new : (tree : Tree) (items : ItemSet) (rows : TextsByItem) → get selectors text ≡ None
      → ((i : ItemKey) (t : List ℕ) → has_key (get rows i) t ≡ cond (set.contains items i && text_eq t text) true (has_key (get texts i) t))
      → ((i : ItemKey) → set.contains items i ≡ holds_on tree (get labels i)) → AreHolding (raised selectors text tree) labels rows
  selector_new tree items rows none told answers =
      moved (raised selectors text tree) rows (Some (more tree)) (get_raised tree)
      (set_on (Some (more tree)) items true rows told (λ i.
      ap (λ o. cond (set.contains items i) true (tests o (get labels i))) none ∙ one (set.contains items i) ∙ answers i))

  -- one that stands is put once more
  pub selector_again : (tree : Tree) → is_some (get selectors text) ≡ true → ((counted : Counted) → get selectors text ≡ Some counted → counted.selector ≡ tree) → AreHolding (raised selectors text tree) labels texts
  selector_again tree there same =
      moved (raised selectors text tree) texts (Some (more tree)) (get_raised tree)
      (unmoved (Some (more tree)) (λ m. again_tests (get selectors text) tree (uses_in (get selectors text) + 1) m there same))

  get_lowered : (t : List ℕ) → get (lowered selectors text) t ≡ cond (text_eq t text) (lowered_in (get selectors text)) (get selectors t)
  get_lowered t = elim (lowered_in (get selectors text)) as (λ o. get (put_or_removed selectors text o) t ≡ cond (text_eq t text) o (get selectors t)) [
    | None ↦ get-remove nat_list_cmp_total selectors text t
    | Some c ↦ get-insert nat_list_cmp_total selectors text c t
  ]

  -- one that stands still is removed once
  pub selector_kept : last_of (get selectors text) ≡ None → AreHolding (lowered selectors text) labels texts
  selector_kept h = moved (lowered selectors text) texts (lowered_in (get selectors text)) get_lowered (unmoved (lowered_in (get selectors text)) (λ m. kept_tests (get selectors text) m h))

  nowhere : (b c : Bool) → (b ≡ false → c ≡ false) → cond b false c ≡ false
  nowhere true c h = refl
  nowhere false c h = h refl

  -- one that goes is taken from all items that meet it
  pub selector_gone : (tree : Tree) (items : ItemSet) (rows : TextsByItem) → last_of (get selectors text) ≡ Some tree
      → ((i : ItemKey) (t : List ℕ) → has_key (get rows i) t ≡ cond (set.contains items i && text_eq t text) false (has_key (get texts i) t))
      → ((i : ItemKey) → set.contains items i ≡ met_on tree (get labels i)) → AreHolding (lowered selectors text) labels rows
  selector_gone tree items rows last told met =
      moved (lowered selectors text) rows (lowered_in (get selectors text)) get_lowered
      (set_on (lowered_in (get selectors text)) items false rows told (λ i.
      nowhere (set.contains items i) (tests (get selectors text) (get labels i)) (λ none.
      last_tests (get selectors text) tree (get labels i) last ∙ holding_met tree (get labels i) (sym (met i) ∙ none))
      ∙ sym (ap (λ o. tests o (get labels i)) (last_lowered (get selectors text) tree last))))
