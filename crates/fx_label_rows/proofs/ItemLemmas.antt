-- Walks over items and labels, and what a union of rows holds.
use Rattle.std.proofs.Common.{◌≡◌, ℕ, ◌+◌, ◌<◌, length, get_or, drop, Bool, true, false, cond, ◌&&◌, ◌||◌, nat_eq, List, ◌∷◌, map, Option, Some, None, is_some, unwrap_or, refl, sym, ap, ◌∙◌}
use Rattle.std.proofs.lemmas.List.{drop_more}
use Rattle.std.specs.List.{list_any}
use Rattle.std.specs.Option.{option_map_or}
use Rattle.std.specs.Cmp.{eq_by_cmp_equiv}
use Rattle.std.specs.Cmp.Lexicographic.{pointwise, nat_list_cmp_total, texts_ties}
use Rattle.std.specs.FinMap.{empty, entries, entries_sorted, get, get-entries, keys}
use Rattle.fx_base.specs.Set as set
use Rattle.fx_base.proofs.AtKey.{get_empty}
use Rattle.fx_base.proofs.AnyIn.{same_truth, any_key, any_from_key}
use Rattle.fx_base.proofs.KeyCases.{bytes_exact}
use Rattle.fx_base.proofs.Walk.{IsRest, IsRest-head}
use Rattle.fx_selector.specs.Truth.{LabelMap}
use Rattle.fx_selector.specs.Needs.{has_one}
use Rattle.fx_model.specs.declared.ids.ItemKey.{ItemKey}
use Rattle.fx_model.specs.contracts.ids.ItemKeyOrd.TheImpl.{cmp-value}
use Rattle.std.specs.FinMap.{get-empty}
use Rattle.fx_base.specs.Grouped.{has_key, same_text}
use Rattle.fx_label_rows.proofs.Meeting.{any_entry, alike, none_passes}
use Rattle.fx_label_rows.specs.Labelled.{ItemSet, ItemGroups, LabelGroups, LabelsByItem, same_item, has_both, has_entry, has_label, AreLabelled, meets_in, in_found}

joined : (s l n : Bool) → ((s || l) || n) ≡ (l || cond s true n)
joined true true n = refl
joined true false n = refl
joined false l n = refl

-- one item of a walk is put in
pub put_next : {X : Type 0} (now next : ItemSet) (k : ItemKey) (x : X) (rest : List (ItemKey × X)) (whole : ItemKey → Bool)
    → ((i : ItemKey) → (list_any (same_item i) (map (λ e. e.0) ((k, x) ∷ rest)) || set.contains now i) ≡ whole i)
    → ((i : ItemKey) → set.contains next i ≡ cond (same_item i k) true (set.contains now i))
    → (i : ItemKey) → (list_any (same_item i) (map (λ e. e.0) rest) || set.contains next i) ≡ whole i
put_next now next k x rest whole h is i =
    ap (λ b. list_any (same_item i) (map (λ e. e.0) rest) || b) (is i)
    ∙ sym (joined (same_item i k) (list_any (same_item i) (map (λ e. e.0) rest)) (set.contains now i)) ∙ h i

pub no_item : (i : ItemKey) → set.contains {R = cmp-value.it} set.empty i ≡ false
no_item i = ap is_some (get-empty cmp-value.it i)

pub nothing_more : (b : Bool) → (b || false) ≡ b
nothing_more true = refl
nothing_more false = refl

pub items_found : (o : Option ItemSet) (items : ItemSet) (i : ItemKey) → items ≡ unwrap_or o empty → set.contains items i ≡ has_key o i
items_found None items i is = ap (λ s. set.contains s i) is ∙ no_item i
items_found (Some s) items i is = ap (λ s. set.contains s i) is

pub values_found : (o : Option ItemGroups) (rows : ItemGroups) (p : List ℕ × ItemKey) → rows ≡ unwrap_or o empty → has_key (get rows p.0) p.1 ≡ has_both o p
values_found None rows p is = ap (λ (r : ItemGroups). has_key (get r p.0) p.1) is ∙ ap (λ (o : Option ItemSet). has_key o p.1) (get_empty p.0)
values_found (Some r) rows p is = ap (λ (r : ItemGroups). has_key (get r p.0) p.1) is

-- ---- unions of rows
grouped : (a l n : Bool) → ((a || l) || n) ≡ (l || (a || n))
grouped true true n = refl
grouped true false n = refl
grouped false l n = refl

pub value_next : (row : ItemGroups) (values : List (List ℕ)) (j : ℕ) (v : List ℕ) (now next : ItemSet) (i : ItemKey) (whole : Bool) → j < length values → v ≡ get_or values j v
    → (list_any (λ v. has_key (get row v) i) (drop j values) || set.contains now i) ≡ whole
    → set.contains next i ≡ (has_key (get row v) i || set.contains now i)
    → (list_any (λ v. has_key (get row v) i) (drop (j + 1) values) || set.contains next i) ≡ whole
value_next row values j v now next i whole lt e h is =
    let later = list_any (λ v. has_key (get row v) i) (drop (j + 1) values) in
    ap (λ b. later || b) is ∙ sym (grouped (has_key (get row v) i) later (set.contains now i))
    ∙ ap (λ vs. list_any (λ v. has_key (get row v) i) vs || set.contains now i) (sym (drop_more values j v lt ∙ ap (λ w. w ∷ drop (j + 1) values) (sym e))) ∙ h

pub row_next : (row : ItemGroups) (e : List ℕ × ItemSet) (es : List (List ℕ × ItemSet)) (now next : ItemSet) (i : ItemKey) (whole : Bool) → IsRest row (e ∷ es)
    → (list_any (λ v. has_key (get row v) i) (map (λ e. e.0) (e ∷ es)) || set.contains now i) ≡ whole
    → set.contains next i ≡ (set.contains e.1 i || set.contains now i)
    → (list_any (λ v. has_key (get row v) i) (map (λ e. e.0) es) || set.contains next i) ≡ whole
row_next row e es now next i whole w h is =
    let later = list_any (λ v. has_key (get row v) i) (map (λ e. e.0) es) in
    ap (λ b. later || b) (is ∙ ap (λ o. has_key o i || set.contains now i) (sym (IsRest-head nat_list_cmp_total row e es w)))
    ∙ sym (grouped (has_key (get row e.0) i) later (set.contains now i)) ∙ h

-- ---- the labels of an item
merged : (a t l s b n : Bool) → cond (l && t) b (cond (a && (s && t)) b n) ≡ cond (((a && s) || l) && t) b n
merged a t true true b n = by_cases a t where
  by_cases : (a t : Bool) → cond (true && t) b (cond (a && (true && t)) b n) ≡ cond (((a && true) || true) && t) b n
  by_cases true true = refl
  by_cases true false = refl
  by_cases false true = refl
  by_cases false false = refl
merged true true true false b n = refl
merged true false true false b n = refl
merged false true true false b n = refl
merged false false true false b n = refl
merged true t false true b n = refl
merged true true false false b n = refl
merged true false false false b n = refl
merged false t false true b n = refl
merged false t false false b n = refl

pub label_next : (now next : LabelGroups) (key value : List ℕ) (item : ItemKey) (b : Bool) (rest : List (List ℕ × List ℕ)) (whole : List ℕ → List ℕ × ItemKey → Bool)
    → ((k : List ℕ) (p : List ℕ × ItemKey) → cond (has_entry ((key, value) ∷ rest) k p.0 && same_item p.1 item) b (has_both (get now k) p) ≡ whole k p)
    → ((k : List ℕ) (p : List ℕ × ItemKey) → has_both (get next k) p ≡ cond (same_text k key && (same_text p.0 value && same_item p.1 item)) b (has_both (get now k) p))
    → (k : List ℕ) (p : List ℕ × ItemKey) → cond (has_entry rest k p.0 && same_item p.1 item) b (has_both (get next k) p) ≡ whole k p
label_next now next key value item b rest whole h is k p =
    let l = has_entry rest k p.0 in
    let t = same_item p.1 item in
    ap (cond (l && t) b) (is k p) ∙ merged (same_text k key) t l (same_text p.0 value) b (has_both (get now k) p)
    ∙ ap (λ a. cond (((a && same_text p.0 value) || l) && t) b (has_both (get now k) p)) ((eq_by_cmp_equiv nat_list_cmp_total).symm k key) ∙ h k p

pub entries_label : (labels : LabelMap) (k v : List ℕ) → has_entry (entries labels) k v ≡ has_label (Some labels) k v
entries_label labels k v = any_entry (λ x. same_text v x) k (entries labels) (entries_sorted labels) ∙ ap (λ o. option_map_or (λ x. same_text v x) o false) (sym (get-entries labels k))

-- ---- meeting
module _ (rows : LabelsByItem) (x : LabelGroups) (is : AreLabelled rows x) (key : List ℕ) (i : ItemKey) where
  labelled : (o : Option LabelMap) (v : List ℕ) → has_label o key v ≡ true → meets_in (Some (record { key = key; values = None })) o ≡ true
  labelled None v h = h
  labelled (Some labels) v h = there (get labels key) h
    where
      there : (f : Option (List ℕ)) → option_map_or (λ y. same_text v y) f false ≡ true → has_one None f ≡ true
      there None h = h
      there (Some y) h = refl

  of_label : (o : Option LabelMap) → meets_in (Some (record { key = key; values = None })) o ≡ true → (v : List ℕ) × (has_label o key v ≡ true)
  of_label None h = cc
  of_label (Some labels) h = there (get labels key) h
    where
      there : (f : Option (List ℕ)) → has_one None f ≡ true → (v : List ℕ) × (option_map_or (λ y. same_text v y) f false ≡ true)
      there None h = cc
      there (Some y) h = (y, (eq_by_cmp_equiv nat_list_cmp_total).refl y)

  some_item : (o : Option ItemSet) → has_key o i ≡ true → is_some o ≡ true
  some_item None h = h
  some_item (Some s) h = refl

  -- some value's row has the item where it has the key
  pub any_value : (row : ItemGroups) → get x key ≡ Some row → list_any (λ v. has_key (get row v) i) (keys row) ≡ meets_in (Some (record { key = key; values = None })) (get rows i)
  any_value row e =
      let at : (v : List ℕ) → has_key (get row v) i ≡ has_label (get rows i) key v = λ v. ap (λ o. has_both o (v, i)) (sym e) ∙ is key (v, i) in
      same_truth _ _
      (λ h. let r = any_key nat_list_cmp_total bytes_exact (λ v. has_key (get row v) i) row h in labelled (get rows i) r.0 (sym (at r.0) ∙ r.1.0))
      (λ h. let r = of_label (get rows i) h in
      let there : has_key (get row r.0) i ≡ true = at r.0 ∙ r.1 in
      any_from_key nat_list_cmp_total bytes_exact (λ v. has_key (get row v) i) row r.0 there (some_item (get row r.0) there))

  -- a need that is met is met by a label
  of_need : (values : Option (List (List ℕ))) (o : Option LabelMap) → meets_in (Some (record { key = key; values = values })) o ≡ true → (v : List ℕ) × (has_label o key v ≡ true)
  of_need None o h = of_label o h
  of_need (Some vs) None h = cc
  of_need (Some vs) (Some labels) h = there (get labels key) h
    where
      there : (f : Option (List ℕ)) → has_one (Some vs) f ≡ true → (v : List ℕ) × (option_map_or (λ y. same_text v y) f false ≡ true)
      there None h = cc
      there (Some y) h = (y, (eq_by_cmp_equiv nat_list_cmp_total).refl y)

  none_of : (b : Bool) → (b ≡ true → false ≡ true) → false ≡ b
  none_of true h = h refl
  none_of false h = refl

  one_value : (vs : List (List ℕ)) (o : Option LabelMap) → list_any (λ v. has_label o key v) vs ≡ meets_in (Some (record { key = key; values = Some vs })) o
  one_value vs None = none_passes vs
  one_value vs (Some labels) = there (get labels key)
    where
      there : (f : Option (List ℕ)) → list_any (λ v. option_map_or (λ y. same_text v y) f false) vs ≡ has_one (Some vs) f
      there None = none_passes vs
      there (Some y) = alike (λ v. same_text v y) (λ v. pointwise nat_eq v y) vs (λ v. sym (texts_ties v y))

  by_row : (values : Option (List (List ℕ))) (f : Option ItemGroups) → get x key ≡ f → in_found f values i ≡ meets_in (Some (record { key = key; values = values })) (get rows i)
  by_row values None e = none_of _ (λ h. let r = of_need values (get rows i) h in ap (λ o. has_both o (r.0, i)) (sym e) ∙ is key (r.0, i) ∙ r.1)
  by_row None (Some row) e = any_value row e
  by_row (Some vs) (Some row) e =
      alike (λ v. has_key (get row v) i) (λ v. has_label (get rows i) key v) vs (λ v. ap (λ o. has_both o (v, i)) (sym e) ∙ is key (v, i))
      ∙ one_value vs (get rows i)

  pub found_row : (values : Option (List (List ℕ))) → in_found (get x key) values i ≡ meets_in (Some (record { key = key; values = values })) (get rows i)
  found_row values = by_row values (get x key) refl

pub all_met : (o : Option LabelMap) → is_some o ≡ meets_in None o
all_met None = refl
all_met (Some labels) = refl
