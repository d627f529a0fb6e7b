-- Counts on walks over the sets of an item, over its texts, and over the items of a set.
use Rattle.std.proofs.Common.{◌≡◌, ◌≤◌, ℕ, Bool, true, false, cond, not, List, [], ◌∷◌, Option, Some, None, refl, sym, ap, ◌∙◌, subst, arith}
use Rattle.std.specs.Cmp.{eq_by_cmp_equiv}
use Rattle.std.specs.Cmp.Lexicographic.{nat_list_cmp_total}
use Rattle.std.specs.FinMap as map
use Rattle.fx_base.specs.Set as set
use Rattle.fx_base.specs.Grouped.{Texts, has_key, same_text}
use Rattle.fx_base.proofs.KeyCases.{bytes_exact}
use Rattle.fx_base.proofs.Walk.{IsRest}
use Rattle.fx_base.proofs.Keyed.{one_key, own_key, at_key}
use Rattle.fx_model.specs.Pairs.{Pairs}
use Rattle.fx_model.specs.Sinks.{Uses}
use Rattle.fx_model.specs.declared.ids.ItemKey.{ItemKey}
use Rattle.fx_model.specs.declared.member.Member.{Member}
use Rattle.fx_model.specs.declared.resources.Item.{Item}
use Rattle.fx_model.specs.declared.set_use.SetUse.{SetUse}
use Rattle.fx_model.proofs.Orders.{item_total, exact_item}
use Rattle.fx_members.specs.Counts.{Counts, count_at, due, gives, shifted, total}
use Rattle.fx_members.specs.Indexes.{Keys, has_text, has_text_of, same_item}
use Rattle.fx_members.specs.Inputs.{Items}
use Rattle.fx_members.specs.UseText.{text_of}
use Rattle.fx_members.proofs.CountLemmas.{unmoved}
use Rattle.fx_members.proofs.Passed.{passed, left, passed_start, passed_end, passed_head, passed_next, left_start, left_end, left_head, left_next, there}
use Rattle.fx_members.proofs.TotalLemmas.{total_put, total_within, total_same, total_none}

-- one more is passed: it was not before, and then it is
step : (more b p q : Bool) (d g n : ℕ) → q ≡ cond b true p → (b ≡ true → p ≡ false) → (b ≡ true → d ≡ g) → shifted more (cond b d 0) (shifted more (cond p g 0) n) ≡ shifted more (cond q g 0) n
step more true p q d g n is fresh same =
    (λ j. shifted more (same refl j) (shifted more (cond (fresh refl j) g 0) n))
    ∙ ap (shifted more g) (unmoved more n) ∙ ap (λ c. shifted more (cond c g 0) n) (sym is)
step more false p q d g n is fresh same = unmoved more (shifted more (cond p g 0) n) ∙ ap (λ c. shifted more (cond c g 0) n) (sym is)

least : (n : ℕ) → 0 ≤ n
least n = omega arith

-- what comes next is still counted, where all was
still : (more b p w : Bool) (d n : ℕ) → (b ≡ true → p ≡ false) → (b ≡ true → w ≡ true) → cond w d 0 ≤ n → cond b d 0 ≤ shifted more (cond p d 0) n
still more true p w d n fresh among h =
    subst (λ k. d ≤ k) (sym (ap (λ c. shifted more (cond c d 0) n) (fresh refl) ∙ unmoved more n)) (subst (λ c. cond c d 0 ≤ n) (among refl) h)
still more false p w d n fresh among h = least _

-- ---- over the names of sets
module _ (uses : Uses) (names : Texts) (item : Option Item) (more : Bool) (counts : Counts) where
  -- what the sets of the names that were passed are given
  abbrev pub NamedSoFar : Counts → List (List ℕ × Unit {0}) → Type 0
  NamedSoFar now es = (q : List ℕ) (m : Member) → count_at now q m ≡ shifted more (cond (passed names es q) (gives (map.get uses q) item m) 0) (count_at counts q m)

  pub named_start : NamedSoFar counts (map.entries names)
  named_start q m = sym (ap (λ b. shifted more (cond b (gives (map.get uses q) item m) 0) (count_at counts q m)) (passed_start names q) ∙ unmoved more (count_at counts q m))

  pub named_end : (now : Counts) → NamedSoFar now [] → (q : List ℕ) (m : Member) → count_at now q m ≡ shifted more (cond (set.contains names q) (gives (map.get uses q) item m) 0) (count_at counts q m)
  named_end now h q m = h q m ∙ ap (λ b. shifted more (cond b (gives (map.get uses q) item m) 0) (count_at counts q m)) (passed_end names q)

  module _ (now : Counts) (e : List ℕ × Unit {0}) (es : List (List ℕ × Unit {0})) (rest : IsRest names (e ∷ es)) (h : NamedSoFar now (e ∷ es)) where
    pub named_left : ((q : List ℕ) (m : Member) → cond (set.contains names q) (gives (map.get uses q) item m) 0 ≤ count_at counts q m) → (m : Member) → gives (map.get uses e.0) item m ≤ count_at now e.0 m
    named_left all m =
        subst (λ n. gives (map.get uses e.0) item m ≤ n) (sym (h e.0 m))
        (still more true (passed names (e ∷ es) e.0) (set.contains names e.0) (gives (map.get uses e.0) item m) (count_at counts e.0 m)
        (λ _. passed_head nat_list_cmp_total bytes_exact names e es) (λ _. there nat_list_cmp_total bytes_exact names e es rest) (all e.0 m))

    pub named_next : (then : Counts) → ((q : List ℕ) (m : Member) → count_at then q m ≡ shifted more (cond (same_text q e.0) (gives (map.get uses e.0) item m) 0) (count_at now q m)) → NamedSoFar then es
    named_next then is q m =
        is q m ∙ ap (shifted more (cond (same_text q e.0) (gives (map.get uses e.0) item m) 0)) (h q m)
        ∙ step more (same_text q e.0) (passed names (e ∷ es) q) (passed names es q) (gives (map.get uses e.0) item m) (gives (map.get uses q) item m) (count_at counts q m)
        (passed_next nat_list_cmp_total bytes_exact names e es rest q)
        (λ b. ap (passed names (e ∷ es)) (one_key bytes_exact q e.0 b) ∙ passed_head nat_list_cmp_total bytes_exact names e es)
        (λ b. ap (λ k. gives (map.get uses k) item m) (sym (one_key bytes_exact q e.0 b)))

-- ---- over the texts of selectors

-- the set's text was passed
abbrev pub text_passed : Texts → List (List ℕ × Unit {0}) → Option SetUse → Bool
text_passed texts es None = false
text_passed texts es (Some u) = passed texts es (text_of u)

module _ (texts : Texts) where
  text_start : (o : Option SetUse) → text_passed texts (map.entries texts) o ≡ false
  text_start None = refl
  text_start (Some u) = passed_start texts (text_of u)

  text_end : (o : Option SetUse) → text_passed texts [] o ≡ has_text_of (Some texts) o
  text_end None = refl
  text_end (Some u) = passed_end texts (text_of u)

  module _ (e : List ℕ × Unit {0}) (es : List (List ℕ × Unit {0})) where
    text_head : (o : Option SetUse) → has_text e.0 o ≡ true → text_passed texts (e ∷ es) o ≡ false
    text_head None h = cc
    text_head (Some u) h = ap (passed texts (e ∷ es)) (sym (one_key bytes_exact e.0 (text_of u) h)) ∙ passed_head nat_list_cmp_total bytes_exact texts e es

    module _ (rest : IsRest texts (e ∷ es)) where
      text_among : (o : Option SetUse) → has_text e.0 o ≡ true → has_text_of (Some texts) o ≡ true
      text_among None h = cc
      text_among (Some u) h = ap (set.contains texts) (sym (one_key bytes_exact e.0 (text_of u) h)) ∙ there nat_list_cmp_total bytes_exact texts e es rest

      text_next : (o : Option SetUse) → text_passed texts es o ≡ cond (has_text e.0 o) true (text_passed texts (e ∷ es) o)
      text_next None = refl
      text_next (Some u) =
          passed_next nat_list_cmp_total bytes_exact texts e es rest (text_of u)
          ∙ ap (λ b. cond b true (passed texts (e ∷ es) (text_of u))) ((eq_by_cmp_equiv nat_list_cmp_total).symm (text_of u) e.0)

module _ (uses : Uses) (texts : Texts) (item : Option Item) (more : Bool) (counts : Counts) where
  -- what the sets of the texts that were passed are given
  abbrev pub TextsSoFar : Counts → List (List ℕ × Unit {0}) → Type 0
  TextsSoFar now es = (q : List ℕ) (m : Member) → count_at now q m ≡ shifted more (cond (text_passed texts es (map.get uses q)) (gives (map.get uses q) item m) 0) (count_at counts q m)

  pub texts_start : TextsSoFar counts (map.entries texts)
  texts_start q m = sym (ap (λ b. shifted more (cond b (gives (map.get uses q) item m) 0) (count_at counts q m)) (text_start texts (map.get uses q)) ∙ unmoved more (count_at counts q m))

  pub texts_end : (now : Counts) → TextsSoFar now [] → (q : List ℕ) (m : Member) → count_at now q m ≡ shifted more (cond (has_text_of (Some texts) (map.get uses q)) (gives (map.get uses q) item m) 0) (count_at counts q m)
  texts_end now h q m = h q m ∙ ap (λ b. shifted more (cond b (gives (map.get uses q) item m) 0) (count_at counts q m)) (text_end texts (map.get uses q))

  module _ (now : Counts) (e : List ℕ × Unit {0}) (es : List (List ℕ × Unit {0})) (rest : IsRest texts (e ∷ es)) (h : TextsSoFar now (e ∷ es)) (names : Option Texts) (by : (q : List ℕ) → has_key names q ≡ has_text e.0 (map.get uses q)) where
    pub texts_left : ((q : List ℕ) (m : Member) → cond (has_text_of (Some texts) (map.get uses q)) (gives (map.get uses q) item m) 0 ≤ count_at counts q m)
        → (q : List ℕ) (m : Member) → cond (has_key names q) (gives (map.get uses q) item m) 0 ≤ count_at now q m
    texts_left all q m =
        let o = map.get uses q in
        let g = gives o item m in
        subst (λ b. cond b g 0 ≤ count_at now q m) (sym (by q))
        (subst (λ n. cond (has_text e.0 o) g 0 ≤ n) (sym (h q m))
        (still more (has_text e.0 o) (text_passed texts (e ∷ es) o) (has_text_of (Some texts) o) g (count_at counts q m) (text_head texts e es o) (text_among texts e es rest o) (all q m)))

    pub texts_next : (then : Counts) → ((q : List ℕ) (m : Member) → count_at then q m ≡ shifted more (cond (has_key names q) (gives (map.get uses q) item m) 0) (count_at now q m)) → TextsSoFar then es
    texts_next then is q m =
        let o = map.get uses q in
        let g = gives o item m in
        is q m ∙ ap (λ b. shifted more (cond b g 0) (count_at now q m)) (by q)
        ∙ ap (shifted more (cond (has_text e.0 o) g 0)) (h q m)
        ∙ step more (has_text e.0 o) (text_passed texts (e ∷ es) o) (text_passed texts es o) g g (count_at counts q m) (text_next texts e es rest o) (text_head texts e es o) (λ _. refl)

-- ---- over the items of one set

-- the items that count: those that were passed where they begin to count, and else those that are left
abbrev pub walked : Bool → Keys → List (ItemKey × Unit {0}) → ItemKey → Bool
walked more keys es i = cond more (passed keys es i) (left keys es i)

module _ (keys : Keys) where
  walked_head : (more : Bool) (e : ItemKey × Unit {0}) (es : List (ItemKey × Unit {0})) → IsRest keys (e ∷ es) → walked more keys (e ∷ es) e.0 ≡ not more
  walked_head true e es rest = passed_head item_total exact_item keys e es
  walked_head false e es rest = left_head item_total exact_item keys e es rest

  walked_next : (more : Bool) (e : ItemKey × Unit {0}) (es : List (ItemKey × Unit {0})) → IsRest keys (e ∷ es) → (i : ItemKey) → walked more keys es i ≡ cond (same_item i e.0) more (walked more keys (e ∷ es) i)
  walked_next true e es rest i = passed_next item_total exact_item keys e es rest i
  walked_next false e es rest i = left_next item_total exact_item keys e es rest i

at_start : (more : Bool) (keys : Keys) (u : SetUse) (items : Items) (m : Member) → cond more 0 (total (set.contains keys) u (map.entries items) m) ≡ total (walked more keys (map.entries keys)) u (map.entries items) m
at_start true keys u items m = sym (total_none (walked true keys (map.entries keys)) u m (passed_start keys) (map.entries items))
at_start false keys u items m = sym (total_same (walked false keys (map.entries keys)) (set.contains keys) u m (left_start keys) (map.entries items))

at_end : (more : Bool) (keys : Keys) (u : SetUse) (items : Items) (m : Member) → total (walked more keys []) u (map.entries items) m ≡ cond more (total (set.contains keys) u (map.entries items) m) 0
at_end true keys u items m = total_same (walked true keys []) (set.contains keys) u m (passed_end keys) (map.entries items)
at_end false keys u items m = total_none (walked false keys []) u m (left_end keys) (map.entries items)

move_there : (more b : Bool) (g t n : ℕ) → shifted more (cond b g 0) (cond b t n) ≡ cond b (shifted more g t) n
move_there more true g t n = refl
move_there more false g t n = unmoved more n

module _ (keys : Keys) (u : SetUse) (items : Items) (name : List ℕ) (more : Bool) (counts : Counts) where
  abbrev pub so_far : List (ItemKey × Unit {0}) → Member → ℕ
  so_far es m = total (walked more keys es) u (map.entries items) m

  abbrev pub all_items : Member → ℕ
  all_items m = total (set.contains keys) u (map.entries items) m

  -- what is counted for the set is what the items that count contribute
  abbrev pub ItemsSoFar : Counts → List (ItemKey × Unit {0}) → Type 0
  ItemsSoFar now es = (q : List ℕ) (m : Member) → count_at now q m ≡ cond (same_text q name) (so_far es m) (count_at counts q m)

  pub items_start : ((m : Member) → count_at counts name m ≡ cond more 0 (all_items m)) → ItemsSoFar counts (map.entries keys)
  items_start was q m = sym (at_key bytes_exact (λ k. count_at counts k m) name q (so_far (map.entries keys) m) (was m ∙ at_start more keys u items m))

  pub items_end : (now : Counts) → ItemsSoFar now [] → (q : List ℕ) (m : Member) → count_at now q m ≡ cond (same_text q name) (cond more (all_items m) 0) (count_at counts q m)
  items_end now h q m = h q m ∙ ap (λ n. cond (same_text q name) n (count_at counts q m)) (at_end more keys u items m)

  module _ (now : Counts) (e : ItemKey × Unit {0}) (es : List (ItemKey × Unit {0})) (rest : IsRest keys (e ∷ es)) (h : ItemsSoFar now (e ∷ es)) where
    pub items_left : more ≡ false → (m : Member) → gives (Some u) (map.get items e.0) m ≤ count_at now name m
    items_left less m =
        subst (λ n. gives (Some u) (map.get items e.0) m ≤ n)
        (sym (h name m ∙ ap (λ b. cond b (so_far (e ∷ es) m) (count_at counts name m)) (own_key nat_list_cmp_total name)))
        (total_within (walked more keys (e ∷ es)) u items e.0 m (walked_head keys more e es rest ∙ ap not less))

    pub items_next : (then : Counts) → ((q : List ℕ) (m : Member) → count_at then q m ≡ shifted more (cond (same_text q name) (gives (Some u) (map.get items e.0) m) 0) (count_at now q m)) → ItemsSoFar then es
    items_next then is q m =
        let g = gives (Some u) (map.get items e.0) m in
        is q m ∙ ap (shifted more (cond (same_text q name) g 0)) (h q m)
        ∙ move_there more (same_text q name) g (so_far (e ∷ es) m) (count_at counts q m)
        ∙ ap (λ n. cond (same_text q name) n (count_at counts q m))
        (sym (total_put (walked more keys (e ∷ es)) (walked more keys es) u items e.0 more m (walked_next keys more e es rest) (walked_head keys more e es rest)))

-- ---- by the items of a set's text

module _ (items : Items) (matched : Pairs) (u : SetUse) (t : List ℕ) (is : t ≡ text_of u) (keys : Option Keys) (by : (i : ItemKey) → has_key keys i ≡ set.contains matched (t, i)) where
  holds_by : (i : ItemKey) → has_key keys i ≡ set.contains matched (text_of u, i)
  holds_by i = by i ∙ ap (λ v. set.contains matched (v, i)) is

  pub due_by_keys : (ks : Keys) → keys ≡ Some ks → (m : Member) → due items matched (Some u) m ≡ total (set.contains ks) u (map.entries items) m
  due_by_keys ks some m = total_same (λ i. set.contains matched (text_of u, i)) (set.contains ks) u m (λ i. sym (holds_by i) ∙ ap (λ o. has_key o i) some) (map.entries items)

  pub due_nowhere : keys ≡ None → (m : Member) → due items matched (Some u) m ≡ 0
  due_nowhere none m = total_none (λ i. set.contains matched (text_of u, i)) u m (λ i. sym (holds_by i) ∙ ap (λ o. has_key o i) none) (map.entries items)

-- nothing is due, so nothing changes
pub nothing_due : (more : Bool) (counts : Counts) (name : List ℕ) (whole : Member → ℕ) → ((m : Member) → whole m ≡ 0) → ((m : Member) → count_at counts name m ≡ cond more 0 (whole m))
    → (q : List ℕ) (m : Member) → count_at counts q m ≡ cond (same_text q name) (cond more (whole m) 0) (count_at counts q m)
nothing_due more counts name whole none was q m =
    sym (at_key bytes_exact (λ k. count_at counts k m) name q (cond more (whole m) 0) (was m ∙ ap (cond more 0) (none m) ∙ both_none more ∙ sym (ap (λ n. cond more n 0) (none m) ∙ both_none more)))
  where
    both_none : (b : Bool) → ◌≡◌ {A = ℕ} (cond b 0 0) 0
    both_none true = refl
    both_none false = refl
