-- The endpoints of each text, as an endpoint or a match is put or removed.
use Rattle.std.proofs.Common.{◌≡◌, ℕ, Bool, true, false, cond, ◌&&◌, nat_eq, List, [], ◌∷◌, Option, Some, None, is_some, refl, sym, ap, ◌∙◌}
use Rattle.std.specs.Cmp.Lexicographic.{pointwise}
use Rattle.std.specs.List.{list_any}
use Rattle.std.specs.FinMap as map
use Rattle.std.specs.FinMap.{get, insert, remove, empty, contains_key, keys, entries, get-remove, get-entries}
use Rattle.fx_base.specs.Set as set
use Rattle.fx_base.specs.Same.{both_pass}
use Rattle.fx_base.specs.Grouped.{has_key}
use Rattle.fx_base.proofs.AnyIn.{same_truth, any_key, any_from_key}
use Rattle.fx_base.proofs.AtKey.{get_empty}
use Rattle.fx_base.proofs.Walk.{found}
use Rattle.fx_model.specs.Pairs.{Pairs, pair_cmp, put}
use Rattle.fx_model.specs.declared.ids.ItemKey.{ItemKey}
use Rattle.fx_model.specs.contracts.ids.ItemKeyOrd.TheImpl.{cmp-value}
use Rattle.fx_model.proofs.Orders.{item_total, exact_item}
use Rattle.fx_model.proofs.PairAt.{contains_put_pair}
use Rattle.fx_active.specs.Inputs.{Endpoints}
use Rattle.fx_active.specs.Active.{holds_somewhere}
use Rattle.fx_active.specs.Rows.{Rows, AreHere, has_some}
use Rattle.fx_active.specs.Steps.{same_item}
use Rattle.fx_active.proofs.CountLemmas.{tied_names}
use Rattle.fx_active.proofs.Larger.{more_pairs, again_pairs}
use Rattle.fx_active.proofs.Updates.{item_same}
use Rattle.fx_base.proofs.Cases.{never}

abbrev no_row : Rows
no_row = empty

nothing : (t : List ℕ) (i : ItemKey) → has_key (get no_row t) i ≡ false
nothing t i = ap (λ (o : Option (set.Set cmp-value.it)). has_key o i) (get_empty t)

pub no_endpoints : (M : Pairs) → AreHere empty empty M
no_endpoints M t i = nothing t i ∙ sym (ap (λ o. is_some o && set.contains M (t, i)) (map.get-empty cmp-value.it i))

pub no_matches : (E : Endpoints) → AreHere empty E set.empty
no_matches E t i = nothing t i ∙ sym (ap (λ o. contains_key E i && is_some o) (map.get-empty pair_cmp (t, i)) ∙ never (contains_key E i))

-- what was lost leaves nothing
pub lost_endpoints : (rows : Rows) (E : Endpoints) (M : Pairs) → rows ≡ empty → E ≡ empty → AreHere rows E M
lost_endpoints rows E M h k t i = ap (λ (m : Rows). has_key (get m t) i) h ∙ no_endpoints M t i ∙ sym (ap (λ (m : Endpoints). contains_key m i && set.contains M (t, i)) k)

pub lost_matches : (rows : Rows) (E : Endpoints) (M : Pairs) → rows ≡ empty → M ≡ set.empty → AreHere rows E M
lost_matches rows E M h k t i = ap (λ (m : Rows). has_key (get m t) i) h ∙ no_matches E t i ∙ sym (ap (λ (m : Pairs). contains_key E i && set.contains m (t, i)) k)

pub none_here : AreHere empty empty set.empty
none_here = no_endpoints set.empty

-- ---- an endpoint
module _ (rows : Rows) (E : Endpoints) (M : Pairs) (are : AreHere rows E M) (key : ItemKey) where
  module _ (names : List (List ℕ)) where
    pub endpoint_here : contains_key E key ≡ false → (now : Rows) → ((t : List ℕ) (i : ItemKey) → has_key (get now t) i ≡ cond (set.contains M (t, key) && same_item i key) true (has_key (get rows t) i)) → AreHere now (insert E key names) M
    endpoint_here none now at t i =
        at t i ∙ ap (cond (set.contains M (t, key) && same_item i key) true) (are t i)
        ∙ sym (more_pairs E M key names none t i)

    pub again_here : contains_key E key ≡ true → AreHere rows (insert E key names) M
    again_here is t i = are t i ∙ sym (again_pairs E M key names is t i)

  gone_at : (s m e x : Bool) → (s ≡ true → x ≡ m) → cond (m && s) false (e && x) ≡ (cond s false e && x)
  gone_at false m e x h = ap (λ b. cond b false (e && x)) (never m)
  gone_at true true e x h = refl
  gone_at true false e x h = ap (λ b. e && b) (h refl) ∙ never e

  key_gone : (i : ItemKey) → contains_key (remove E key) i ≡ cond (same_item i key) false (contains_key E i)
  key_gone i = ap is_some (get-remove item_total E key i) ∙ elim (same_item i key) as (λ b. is_some (cond b None (get E i)) ≡ cond b false (contains_key E i)) [ true ↦ refl | false ↦ refl ]

  pub endpoint_gone : (now : Rows) → ((t : List ℕ) (i : ItemKey) → has_key (get now t) i ≡ cond (set.contains M (t, key) && same_item i key) false (has_key (get rows t) i)) → AreHere now (remove E key) M
  endpoint_gone now at t i =
      at t i ∙ ap (cond (set.contains M (t, key) && same_item i key) false) (are t i)
      ∙ gone_at (same_item i key) (set.contains M (t, key)) (contains_key E i) (set.contains M (t, i)) (λ h. ap (λ k. set.contains M (t, k)) (item_same i key h))
      ∙ sym (ap (λ b. b && set.contains M (t, i)) (key_gone i))

-- ---- a match
whole : (e m b : Bool) → cond (e && true) b (e && m) ≡ (e && b)
whole true m b = refl
whole false m b = refl

put_at : (x k e m b : Bool) → (x ≡ true → k ≡ e) → cond (k && x) b (e && m) ≡ (e && cond x b m)
put_at true k e m b h = ap (λ y. cond (y && true) b (e && m)) (h refl) ∙ whole e m b
put_at false true e m b h = refl
put_at false false e m b h = refl

module _ (rows : Rows) (E : Endpoints) (M : Pairs) (are : AreHere rows E M) (text : List ℕ) (item : ItemKey) (b : Bool) where
  pair_at : (t : List ℕ) (i : ItemKey) → set.contains (put M (text, item) b) (t, i) ≡ cond (pointwise nat_eq text t && same_item i item) b (set.contains M (t, i))
  pair_at t i = contains_put_pair M text item b t i ∙ ap (λ x. cond (x && same_item i item) b (set.contains M (t, i))) (tied_names t text)

  pub match_here : (now : Rows) → ((t : List ℕ) (i : ItemKey) → has_key (get now t) i ≡ cond (contains_key E item && (pointwise nat_eq text t && same_item i item)) b (has_key (get rows t) i)) → AreHere now E (put M (text, item) b)
  match_here now at t i =
      at t i ∙ ap (cond (contains_key E item && (pointwise nat_eq text t && same_item i item)) b) (are t i)
      ∙ put_at (pointwise nat_eq text t && same_item i item) (contains_key E item) (contains_key E i) (set.contains M (t, i)) b
      (λ h. ap (contains_key E) (sym (item_same i item (both_pass (pointwise nat_eq text t) (same_item i item) h).1)))
      ∙ sym (ap (λ x. contains_key E i && x) (pair_at t i))

-- ---- whether a selector holds somewhere
abbrev pub some_there : Option (set.Set cmp-value.it) → Bool
some_there None = false
some_there (Some s) = has_some (entries s)

first_there : (s : set.Set cmp-value.it) → has_some (entries s) ≡ true → (k : ItemKey) × (set.contains s k ≡ true)
first_there s h = elim (entries s) as (λ es. entries s ≡ es → has_some es ≡ true → (k : ItemKey) × (set.contains s k ≡ true)) [
  | [] ↦ λ e g. cc
  | x ∷ xs ↦ λ e g. (x.0, ap is_some (get-entries s x.0 ∙ ap (map.find cmp-value.it x.0) e ∙ found item_total x xs))
] refl h

some_entry : (s : set.Set cmp-value.it) (k : ItemKey) → set.contains s k ≡ true → has_some (entries s) ≡ true
some_entry s k h = elim (entries s) as (λ es. entries s ≡ es → has_some es ≡ true) [
  | [] ↦ λ e. sym (ap is_some (get-entries s k ∙ ap (map.find cmp-value.it k) e)) ∙ h
  | x ∷ xs ↦ λ e. refl
] refl

pub holds_here : (E : Endpoints) (M : Pairs) (t : List ℕ) (o : Option (set.Set cmp-value.it)) → ((i : ItemKey) → has_key o i ≡ (contains_key E i && set.contains M (t, i))) → some_there o ≡ holds_somewhere E M t
holds_here E M t o are =
    let p = λ (i : ItemKey). set.contains M (t, i) in
    let has : list_any p (keys E) ≡ true → (k : ItemKey) × (has_key o k ≡ true) =
    λ h. let r = any_key item_total exact_item p E h in (r.0, are r.0 ∙ (λ j. (r.1.1 j) && r.1.0 j)) in
    elim o as (λ x. o ≡ x → some_there x ≡ list_any p (keys E)) [
      | None ↦ λ e. same_truth _ _ (λ h. cc) (λ h. let r = has h in sym (ap (λ x. has_key x r.0) e) ∙ r.1)
      | Some s ↦ λ e. same_truth _ _
          (λ h. let r = first_there s h in
          let both = both_pass (contains_key E r.0) (p r.0) (sym (are r.0) ∙ ap (λ x. has_key x r.0) e ∙ r.1) in
          any_from_key item_total exact_item p E r.0 both.1 both.0)
          (λ h. let r = has h in some_entry s r.0 (sym (ap (λ x. has_key x r.0) e) ∙ r.1))
    ] refl
