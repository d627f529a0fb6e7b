-- What the node holds, as a set, an item or a match is put or removed.
use Rattle.std.proofs.Common.{◌≡◌, ◌≤◌, ℕ, ◌+◌, Bool, true, false, cond, not, ◌&&◌, List, Option, Some, None, refl, sym, ap, ◌∙◌, subst, arith}
use Rattle.std.specs.Cmp.{eq_by_cmp_equiv}
use Rattle.std.specs.Cmp.Lexicographic.{nat_list_cmp_total}
use Rattle.std.specs.FinMap as map
use Rattle.fx_base.specs.Set as set
use Rattle.fx_base.specs.Grouped.{Texts, has_key, same_text}
use Rattle.fx_base.proofs.AtKey.{get_insert, get_remove}
use Rattle.fx_base.proofs.KeyCases.{bytes_exact}
use Rattle.fx_model.specs.Pairs.{Pairs, put}
use Rattle.fx_model.specs.Sinks.{Uses}
use Rattle.fx_model.specs.declared.ids.ItemKey.{ItemKey}
use Rattle.fx_model.specs.declared.member.Member.{Member}
use Rattle.fx_model.specs.declared.resources.Item.{Item}
use Rattle.fx_model.specs.declared.set_use.SetUse.{SetUse}
use Rattle.fx_model.proofs.PairAt.{contains_put_pair}
use Rattle.fx_members.specs.Counts.{Counts, count_at, due, gives, shifted}
use Rattle.fx_members.specs.Indexes.{NamesByText, TextsByItem, has_text, has_text_of, same_item, AreByText, AreByItem}
use Rattle.fx_members.specs.Inputs.{Items}
use Rattle.fx_members.specs.UseText.{text_of}
use Rattle.fx_members.proofs.CountLemmas.{unmoved}
use Rattle.fx_members.proofs.TotalLemmas.{total_apart, total_insert, total_put_if, total_within}
use Rattle.fx_base.proofs.Cases.{shown, gone_both}
use Rattle.fx_base.proofs.Keyed.{one_key, at_key}

least : (n : ℕ) → 0 ≤ n
least n = omega arith

part_within : (a n : ℕ) → a ≤ a + n
part_within a n = omega arith

part_gone : (a n : ℕ) → shifted false a (a + n) ≡ n
part_gone a n = omega arith

part_exchanged : (a b n : ℕ) → shifted false a (shifted true b (a + n)) ≡ b + n
part_exchanged a b n = omega arith

still_within : (a b n : ℕ) → a ≤ n → a ≤ shifted true b n
still_within a b n h = omega arith

turned : (a b : Bool) → (a && b) ≡ (b && a)
turned true true = refl
turned true false = refl
turned false true = refl
turned false false = refl

-- ---- items

module _ (items : Items) (matched : Pairs) (k : ItemKey) (texts : Option Texts) (by : (t : List ℕ) → has_key texts t ≡ set.contains matched (t, k)) where
  -- what the item gives a set whose selector holds on it
  abbrev pub given : Option SetUse → Option Item → Member → ℕ
  given o x m = cond (has_text_of texts o) (gives o x m) 0

  abbrev pub others : Option SetUse → Member → ℕ
  others o m = due (map.remove items k) matched o m

  due_apart : (o : Option SetUse) (m : Member) → due items matched o m ≡ given o (map.get items k) m + others o m
  due_apart None m = refl
  due_apart (Some u) m =
      let g = gives (Some u) (map.get items k) m in
      total_apart (λ i. set.contains matched (text_of u, i)) u m items k
      ∙ ap (λ b. cond b g 0 + others (Some u) m) (sym (by (text_of u)))

  due_put : (x : Item) (o : Option SetUse) (m : Member) → due (map.insert items k x) matched o m ≡ given o (Some x) m + others o m
  due_put x None m = refl
  due_put x (Some u) m =
      let g = gives (Some u) (Some x) m in
      total_insert (λ i. set.contains matched (text_of u, i)) u m items k x
      ∙ ap (λ b. cond b g 0 + others (Some u) m) (sym (by (text_of u)))

  module _ (uses : Uses) (counts : Counts) (are : (q : List ℕ) (m : Member) → count_at counts q m ≡ due items matched (map.get uses q) m) where
    -- one that gives what was given
    pub item_kept : (x : Item) → ((o : Option SetUse) (m : Member) → gives o (map.get items k) m ≡ gives o (Some x) m) → (q : List ℕ) (m : Member) → count_at counts q m ≡ due (map.insert items k x) matched (map.get uses q) m
    item_kept x same q m =
        let o = map.get uses q in
        are q m ∙ due_apart o m ∙ ap (λ g. cond (has_text_of texts o) g 0 + others o m) (same o m) ∙ sym (due_put x o m)

    -- what was there can be taken away
    pub item_within : (q : List ℕ) (m : Member) → given (map.get uses q) (map.get items k) m ≤ count_at counts q m
    item_within q m = subst (λ n. given (map.get uses q) (map.get items k) m ≤ n) (sym (are q m ∙ due_apart (map.get uses q) m)) (part_within _ _)

    pub item_gone : (now : Counts) → ((q : List ℕ) (m : Member) → count_at now q m ≡ shifted false (given (map.get uses q) (map.get items k) m) (count_at counts q m))
        → (q : List ℕ) (m : Member) → count_at now q m ≡ due (map.remove items k) matched (map.get uses q) m
    item_gone now less q m =
        let o = map.get uses q in
        less q m ∙ ap (shifted false (given o (map.get items k) m)) (are q m ∙ due_apart o m) ∙ part_gone _ _

    module _ (x : Item) (more : Counts) (raised : (q : List ℕ) (m : Member) → count_at more q m ≡ shifted true (given (map.get uses q) (Some x) m) (count_at counts q m)) where
      pub item_within_more : (q : List ℕ) (m : Member) → given (map.get uses q) (map.get items k) m ≤ count_at more q m
      item_within_more q m = subst (λ n. given (map.get uses q) (map.get items k) m ≤ n) (sym (raised q m)) (still_within _ _ _ (item_within q m))

      pub item_put : (now : Counts) → ((q : List ℕ) (m : Member) → count_at now q m ≡ shifted false (given (map.get uses q) (map.get items k) m) (count_at more q m))
          → (q : List ℕ) (m : Member) → count_at now q m ≡ due (map.insert items k x) matched (map.get uses q) m
      item_put now less q m =
          let o = map.get uses q in
          less q m
          ∙ ap (shifted false (given o (map.get items k) m)) (raised q m ∙ ap (shifted true (given o (Some x) m)) (are q m ∙ due_apart o m))
          ∙ part_exchanged _ _ _ ∙ sym (due_put x o m)

-- ---- matches

module _ (items : Items) (matched : Pairs) (t : List ℕ) (k : ItemKey) (b : Bool) (was : set.contains matched (t, k) ≡ not b) where
  due_matched : (o : Option SetUse) (m : Member) → due items (put matched (t, k) b) o m ≡ shifted b (cond (has_text t o) (gives o (map.get items k) m) 0) (due items matched o m)
  due_matched None m = sym (unmoved b 0)
  due_matched (Some u) m =
      total_put_if (λ i. set.contains matched (text_of u, i)) (λ i. set.contains (put matched (t, k) b) (text_of u, i)) u items k (same_text t (text_of u)) b m
      (λ i.
      contains_put_pair matched t k b (text_of u) i
      ∙ ap (λ c. cond (c && same_item i k) b (set.contains matched (text_of u, i))) ((eq_by_cmp_equiv nat_list_cmp_total).symm (text_of u) t))
      (λ h. ap (λ v. set.contains matched (v, k)) (sym (one_key bytes_exact t (text_of u) h)) ∙ was)

  due_within : b ≡ false → (o : Option SetUse) (m : Member) → cond (has_text t o) (gives o (map.get items k) m) 0 ≤ due items matched o m
  due_within less None m = least 0
  due_within less (Some u) m =
      elim (same_text t (text_of u)) as (λ c. same_text t (text_of u) ≡ c → cond c (gives (Some u) (map.get items k) m) 0 ≤ due items matched (Some u) m) [
        | true ↦ λ h.
            total_within (λ i. set.contains matched (text_of u, i)) u items k m
            (ap (λ v. set.contains matched (v, k)) (sym (one_key bytes_exact t (text_of u) h)) ∙ was ∙ ap not less)
        | false ↦ λ h. least _
      ] refl

  module _ (uses : Uses) (names : Option Texts) (by : (q : List ℕ) → has_key names q ≡ has_text t (map.get uses q)) (counts : Counts) (are : (q : List ℕ) (m : Member) → count_at counts q m ≡ due items matched (map.get uses q) m) where
    pub match_within : b ≡ false → (q : List ℕ) (m : Member) → cond (has_key names q) (gives (map.get uses q) (map.get items k) m) 0 ≤ count_at counts q m
    match_within less q m =
        let o = map.get uses q in
        subst (λ c. cond c (gives o (map.get items k) m) 0 ≤ count_at counts q m) (sym (by q))
        (subst (λ n. cond (has_text t o) (gives o (map.get items k) m) 0 ≤ n) (sym (are q m)) (due_within less o m))

    pub match_put : (now : Counts) → ((q : List ℕ) (m : Member) → count_at now q m ≡ shifted b (cond (has_key names q) (gives (map.get uses q) (map.get items k) m) 0) (count_at counts q m))
        → (q : List ℕ) (m : Member) → count_at now q m ≡ due items (put matched (t, k) b) (map.get uses q) m
    match_put now is q m =
        let o = map.get uses q in
        is q m ∙ ap (λ c. shifted b (cond c (gives o (map.get items k) m) 0) (count_at counts q m)) (by q)
        ∙ ap (shifted b (cond (has_text t o) (gives o (map.get items k) m) 0)) (are q m) ∙ sym (due_matched o m)

-- the texts of each item, with a text more or less
pub by_item_put : (texts now : TextsByItem) (matched : Pairs) (t : List ℕ) (k : ItemKey) (b : Bool) → AreByItem texts matched
    → ((i : ItemKey) (u : List ℕ) → has_key (map.get now i) u ≡ cond (same_item i k && same_text u t) b (has_key (map.get texts i) u))
    → AreByItem now (put matched (t, k) b)
by_item_put texts now matched t k b are is i u =
    is i u ∙ ap (cond (same_item i k && same_text u t) b) (are i u)
    ∙ ap (λ c. cond c b (set.contains matched (u, i))) (turned (same_item i k) (same_text u t)) ∙ sym (contains_put_pair matched t k b u i)

-- ---- sets

due_either : (items : Items) (matched : Pairs) (b : Bool) (o p : Option SetUse) (m : Member) → due items matched (cond b o p) m ≡ cond b (due items matched o m) (due items matched p m)
due_either items matched true o p m = refl
due_either items matched false o p m = refl

module _ (items : Items) (matched : Pairs) (uses : Uses) (name : List ℕ) (counts now : Counts) (are : (q : List ℕ) (m : Member) → count_at counts q m ≡ due items matched (map.get uses q) m) where
  -- of a set, or of one that is used no more
  pub use_counted : (o : Option SetUse) → map.get uses name ≡ o → (m : Member) → count_at counts name m ≡ due items matched o m
  use_counted o is m = are name m ∙ ap (λ p. due items matched p m) is

  pub use_put : (u : SetUse) → ((q : List ℕ) (m : Member) → count_at now q m ≡ cond (same_text q name) (due items matched (Some u) m) (count_at counts q m))
      → (q : List ℕ) (m : Member) → count_at now q m ≡ due items matched (map.get (map.insert uses name u) q) m
  use_put u is q m =
      is q m ∙ ap (cond (same_text q name) (due items matched (Some u) m)) (are q m)
      ∙ sym (ap (λ o. due items matched o m) (get_insert uses name u q) ∙ due_either items matched (same_text q name) (Some u) (map.get uses q) m)

  pub use_gone : ((q : List ℕ) (m : Member) → count_at now q m ≡ cond (same_text q name) 0 (count_at counts q m))
      → (q : List ℕ) (m : Member) → count_at now q m ≡ due items matched (map.get (map.remove uses name) q) m
  use_gone is q m =
      is q m ∙ ap (cond (same_text q name) 0) (are q m)
      ∙ sym (ap (λ o. due items matched o m) (get_remove uses name q) ∙ due_either items matched (same_text q name) None (map.get uses q) m)

text_either : (b : Bool) (t : List ℕ) (o p : Option SetUse) → has_text t (cond b o p) ≡ cond b (has_text t o) (has_text t p)
text_either true t o p = refl
text_either false t o p = refl

-- the names of each text, with a set that wasn't there, and without one that was
module _ (names now : NamesByText) (uses : Uses) (are : AreByText names uses) (name : List ℕ) (u : SetUse) where
  pub by_text_added : map.get uses name ≡ None
      → ((t q : List ℕ) → has_key (map.get now t) q ≡ cond (same_text t (text_of u) && same_text q name) true (has_key (map.get names t) q))
      → AreByText now (map.insert uses name u)
  by_text_added none is t q =
      is t q ∙ ap (cond (same_text t (text_of u) && same_text q name) true) (are t q)
      ∙ shown (same_text t (text_of u)) (same_text q name) (has_text t (map.get uses q)) (at_key bytes_exact (λ k. has_text t (map.get uses k)) name q false (ap (has_text t) none))
      ∙ sym (ap (has_text t) (get_insert uses name u q) ∙ text_either (same_text q name) t (Some u) (map.get uses q))

  pub by_text_removed : map.get uses name ≡ Some u
      → ((t q : List ℕ) → has_key (map.get now t) q ≡ cond (same_text t (text_of u) && same_text q name) false (has_key (map.get names t) q))
      → AreByText now (map.remove uses name)
  by_text_removed there is t q =
      is t q ∙ ap (cond (same_text t (text_of u) && same_text q name) false) (are t q)
      ∙ gone_both (same_text t (text_of u)) (same_text q name) (has_text t (map.get uses q)) (at_key bytes_exact (λ k. has_text t (map.get uses k)) name q (same_text t (text_of u)) (ap (has_text t) there))
      ∙ sym (ap (has_text t) (get_remove uses name q) ∙ text_either (same_text q name) t None (map.get uses q))
