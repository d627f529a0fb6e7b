-- One endpoint more, and one match more.
use Rattle.std.proofs.Common.{◌≡◌, ℕ, Bool, true, false, cond, ◌&&◌, ◌||◌, nat_eq, List, [], ◌∷◌, Option, Some, is_some, refl, sym, ap, ◌∙◌}
use Rattle.std.specs.Cmp.Lexicographic.{pointwise, texts_ties}
use Rattle.std.specs.List.{list_any}
use Rattle.std.specs.FinMap.{get, insert, contains_key, keys, get-insert}
use Rattle.fx_base.specs.Set as set
use Rattle.fx_base.specs.Same.{same_bytes, both_pass}
use Rattle.fx_base.proofs.AnyIn.{same_truth, any_key, any_from_key}
use Rattle.fx_model.specs.Pairs.{Pairs}
use Rattle.fx_model.specs.declared.ids.ItemKey.{ItemKey}
use Rattle.fx_model.proofs.Orders.{item_total, exact_item}
use Rattle.fx_model.proofs.PairAt.{contains_put_pair}
use Rattle.fx_active.specs.Inputs.{Endpoints}
use Rattle.fx_active.specs.Active.{text_of, holds_somewhere}
use Rattle.fx_active.specs.Steps.{same_item, selects, has_typed_text, holds_of}
use Rattle.fx_active.proofs.Updates.{IsLarger, IsTest, item_same, own_item}
use Rattle.fx_base.proofs.Cases.{never}

some_cond : {A : Type 0} (b : Bool) (x : A) (o : Option A) → is_some (cond b (Some x) o) ≡ cond b true (is_some o)
some_cond true x o = refl
some_cond false x o = refl

pub or_left : (a b : Bool) → a ≡ true → (a || b) ≡ true
or_left a b h = ap (λ x. x || b) h

pub or_right : (a b : Bool) → b ≡ true → (a || b) ≡ true
or_right true b h = refl
or_right false b h = h

-- one of two
pub either : {C : Type 0} (a b : Bool) → (a || b) ≡ true → (a ≡ true → C) → (b ≡ true → C) → C
either true b h f g = f refl
either false b h f g = g h

whether : {C : Type 0} (b : Bool) → (b ≡ true → C) → (b ≡ false → C) → C
whether true f g = f refl
whether false f g = g refl

both_ways : (b : Bool) → cond b true true ≡ true
both_ways true = refl
both_ways false = refl

at_key : (b : Bool) → b ≡ cond (b && true) true (false && b)
at_key true = refl
at_key false = refl

true_false : true ≡ false → ⊥
true_false e = cc

-- some key passes a test
somewhere : (E : Endpoints) (p : ItemKey → Bool) → list_any p (keys E) ≡ true → (k : ItemKey) × ((p k ≡ true) × (contains_key E k ≡ true))
somewhere E p h = any_key item_total exact_item p E h

there : (E : Endpoints) (p : ItemKey → Bool) (k : ItemKey) → p k ≡ true → contains_key E k ≡ true → list_any p (keys E) ≡ true
there E p k h i = any_from_key item_total exact_item p E k h i

-- tests that agree on the keys, over the same keys
pub any_alike : (E E' : Endpoints) (p q : ItemKey → Bool) → ((k : ItemKey) → contains_key E' k ≡ contains_key E k) → ((k : ItemKey) → contains_key E k ≡ true → p k ≡ q k) → list_any p (keys E') ≡ list_any q (keys E)
any_alike E E' p q same agree = same_truth _ _
    (λ h. let r = somewhere E' p h in let in_E = sym (same r.0) ∙ r.1.1 in there E q r.0 (sym (agree r.0 in_E) ∙ r.1.0) in_E)
    (λ h. let r = somewhere E q h in there E' p r.0 (agree r.0 r.1.1 ∙ r.1.0) (same r.0 ∙ r.1.1))

none_of : (p : ItemKey → Bool) → ((i : ItemKey) → p i ≡ false) → (is : List ItemKey) → list_any p is ≡ false
none_of p h [] = refl
none_of p h (i ∷ is) = λ j. h i j || none_of p h is j

-- a text with no pairs
pub nowhere : (E : Endpoints) (M : Pairs) (t : List ℕ) → ((i : ItemKey) → set.contains M (t, i) ≡ false) → holds_somewhere E M t ≡ false
nowhere E M t h = none_of (λ i. set.contains M (t, i)) h (keys E)

-- ---- an endpoint more
key_put : (E : Endpoints) (key : ItemKey) (names : List (List ℕ)) (i : ItemKey) → contains_key (insert E key names) i ≡ cond (same_item i key) true (contains_key E i)
key_put E key names i = ap is_some (get-insert item_total E key names i) ∙ some_cond (same_item i key) names (get E i)

-- an endpoint that was there already
pub key_there : (E : Endpoints) (key : ItemKey) (names : List (List ℕ)) → contains_key E key ≡ true → (i : ItemKey) → contains_key (insert E key names) i ≡ contains_key E i
key_there E key names is i =
    key_put E key names i
    ∙ elim (same_item i key) as (λ b. same_item i key ≡ b → cond b true (contains_key E i) ≡ contains_key E i) [
      | true ↦ λ e. sym is ∙ ap (contains_key E) (sym (item_same i key e))
      | false ↦ λ e. refl
    ] refl

module _ (E : Endpoints) (M : Pairs) (key : ItemKey) (names : List (List ℕ)) (none : contains_key E key ≡ false) where
  more_holds : (t : List ℕ) → holds_somewhere (insert E key names) M t ≡ (holds_somewhere E M t || set.contains M (t, key))
  more_holds t =
      let p = λ (i : ItemKey). set.contains M (t, i) in
      same_truth _ _
      (λ h. let r = somewhere (insert E key names) p h in
      whether (same_item r.0 key)
      (λ e. or_right (holds_somewhere E M t) (p key) (ap p (sym (item_same r.0 key e)) ∙ r.1.0))
      (λ e. or_left (holds_somewhere E M t) (p key) (there E p r.0 r.1.0 (ap (λ b. cond b true (contains_key E r.0)) (sym e) ∙ sym (key_put E key names r.0) ∙ r.1.1))))
      (λ h. either (holds_somewhere E M t) (p key) h
      (λ e. let r = somewhere E p e in there (insert E key names) p r.0 r.1.0 (key_put E key names r.0 ∙ ap (cond (same_item r.0 key) true) r.1.1 ∙ both_ways (same_item r.0 key)))
      (λ e. there (insert E key names) p key e (key_put E key names key ∙ ap (λ b. cond b true (contains_key E key)) (own_item key))))

  pub more_pairs : (t : List ℕ) (i : ItemKey) → (contains_key (insert E key names) i && set.contains M (t, i)) ≡ cond (set.contains M (t, key) && same_item i key) true (contains_key E i && set.contains M (t, i))
  more_pairs t i =
      ap (λ b. b && set.contains M (t, i)) (key_put E key names i)
      ∙ whether (same_item i key)
      (λ e. let k = item_same i key e in
      ap (λ b. cond b true (contains_key E i) && set.contains M (t, i)) e
      ∙ ap (λ n. set.contains M (t, n)) k
      ∙ at_key (set.contains M (t, key)) ∙ (λ j. cond (set.contains M (t, key) && sym e j) true (sym none j && set.contains M (t, key)))
      ∙ ap (λ n. cond (set.contains M (t, key) && same_item i key) true (contains_key E n && set.contains M (t, n))) (sym k))
      (λ e. ap (λ b. cond b true (contains_key E i) && set.contains M (t, i)) e
      ∙ ap (λ b. cond b true (contains_key E i && set.contains M (t, i))) (sym (ap (λ b. set.contains M (t, key) && b) e ∙ never (set.contains M (t, key)))))

  pub endpoint_more : IsLarger E M (insert E key names) M key (λ p. set.contains M (text_of p, key))
  endpoint_more = record {
    holds = λ p. more_holds (text_of p);
    pairs = λ p i. more_pairs (text_of p) i;
    absent = λ p h. ap (λ b. b && set.contains M (text_of p, key)) none;
  }

pub endpoint_test : (E : Endpoints) (M : Pairs) (key : ItemKey) → IsTest E M (λ p. set.contains M (text_of p, key)) (selects M key) (holds_of E M)
endpoint_test E M key = record { none = refl; some = λ p. refl; other = λ p h. refl }

-- an endpoint that was there already is no more
module _ (E : Endpoints) (M : Pairs) (key : ItemKey) (names : List (List ℕ)) (is : contains_key E key ≡ true) where
  pub again_holds : (t : List ℕ) → holds_somewhere (insert E key names) M t ≡ holds_somewhere E M t
  again_holds t = any_alike E (insert E key names) (λ i. set.contains M (t, i)) (λ i. set.contains M (t, i)) (key_there E key names is) (λ k h. refl)

  pub again_pairs : (t : List ℕ) (i : ItemKey) → (contains_key (insert E key names) i && set.contains M (t, i)) ≡ (contains_key E i && set.contains M (t, i))
  again_pairs t i = ap (λ b. b && set.contains M (t, i)) (key_there E key names is i)

-- ---- a match more
module _ (E : Endpoints) (M : Pairs) (t : List ℕ) (item : ItemKey) where
  abbrev more : Pairs
  more = set.insert M (t, item)

  pair_put : (u : List ℕ) (i : ItemKey) → set.contains more (u, i) ≡ cond (pointwise nat_eq u t && same_item i item) true (set.contains M (u, i))
  pair_put u i = contains_put_pair M t item true u i ∙ ap (λ b. cond (b && same_item i item) true (set.contains M (u, i))) (sym (texts_ties u t))

  -- of an item that isn't such an endpoint
  module _ (isnt : contains_key E item ≡ false) where
    idle_at : (u : List ℕ) (i : ItemKey) → contains_key E i ≡ true → set.contains more (u, i) ≡ set.contains M (u, i)
    idle_at u i is =
        pair_put u i
        ∙ whether (same_item i item)
        (λ e. absurd (true_false (sym is ∙ ap (contains_key E) (item_same i item e) ∙ isnt)))
        (λ e. ap (λ b. cond b true (set.contains M (u, i))) (ap (λ b. pointwise nat_eq u t && b) e ∙ never (pointwise nat_eq u t)))

    pub idle_holds : (u : List ℕ) → holds_somewhere E more u ≡ holds_somewhere E M u
    idle_holds u = any_alike E E (λ i. set.contains more (u, i)) (λ i. set.contains M (u, i)) (λ k. refl) (λ k is. idle_at u k is)

    pub idle_pairs : (u : List ℕ) (i : ItemKey) → (contains_key E i && set.contains more (u, i)) ≡ (contains_key E i && set.contains M (u, i))
    idle_pairs u i = whether (contains_key E i) (λ e. ap (λ b. contains_key E i && b) (idle_at u i e)) (λ e. ap (λ b. b && set.contains more (u, i)) e ∙ sym (ap (λ b. b && set.contains M (u, i)) e))

  module _ (is : contains_key E item ≡ true) (none : set.contains M (t, item) ≡ false) where
    match_holds : (u : List ℕ) → holds_somewhere E more u ≡ (holds_somewhere E M u || pointwise nat_eq u t)
    match_holds u =
        let p = λ (i : ItemKey). set.contains M (u, i) in
        let q = λ (i : ItemKey). set.contains more (u, i) in
        same_truth _ _
        (λ h. let r = somewhere E q h in
        whether (pointwise nat_eq u t)
        (λ e. or_right (holds_somewhere E M u) (pointwise nat_eq u t) e)
        (λ e. or_left (holds_somewhere E M u) (pointwise nat_eq u t) (there E p r.0 (ap (λ b. cond (b && same_item r.0 item) true (p r.0)) (sym e) ∙ sym (pair_put u r.0) ∙ r.1.0) r.1.1)))
        (λ h. either (holds_somewhere E M u) (pointwise nat_eq u t) h
        (λ e. let r = somewhere E p e in there E q r.0 (pair_put u r.0 ∙ ap (cond (pointwise nat_eq u t && same_item r.0 item) true) r.1.0 ∙ both_ways (pointwise nat_eq u t && same_item r.0 item)) r.1.1)
        (λ e. there E q item (pair_put u item ∙ (λ j. cond ((e j) && own_item item j) true (p item))) is))

    match_pairs : (u : List ℕ) (i : ItemKey) → (contains_key E i && set.contains more (u, i)) ≡ cond (pointwise nat_eq u t && same_item i item) true (contains_key E i && set.contains M (u, i))
    match_pairs u i =
        ap (λ b. contains_key E i && b) (pair_put u i)
        ∙ whether (pointwise nat_eq u t && same_item i item)
        (λ e. ap (λ b. contains_key E i && cond b true (set.contains M (u, i))) e
        ∙ ap (λ b. b && true) (ap (contains_key E) (item_same i item (both_pass (pointwise nat_eq u t) (same_item i item) e).1) ∙ is)
        ∙ ap (λ b. cond b true (contains_key E i && set.contains M (u, i))) (sym e))
        (λ e. ap (λ b. contains_key E i && cond b true (set.contains M (u, i))) e ∙ ap (λ b. cond b true (contains_key E i && set.contains M (u, i))) (sym e))

    pub match_more : IsLarger E M E more item (λ p. pointwise nat_eq (text_of p) t)
    match_more = record {
      holds = λ p. match_holds (text_of p);
      pairs = λ p i. match_pairs (text_of p) i;
      absent = λ p h. ap (λ u. contains_key E item && set.contains M (u, item)) (same_bytes (text_of p) t h) ∙ ap (λ b. contains_key E item && b) none ∙ never (contains_key E item);
    }

  pub match_test : (others : Bool) → others ≡ holds_somewhere E M t → IsTest E M (λ p. pointwise nat_eq (text_of p) t) (has_typed_text t) (λ o. others)
  match_test others h = record { none = refl; some = λ p. refl; other = λ p e. h ∙ ap (holds_somewhere E M) (sym (same_bytes (text_of p) t e)) }
