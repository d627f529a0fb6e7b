-- How often the endpoints list a profile, as one is put or removed.
use Rattle.std.proofs.Common.{◌≡◌, ℕ, ◌+◌, ◌≤◌, ◌==◌, Bool, true, false, cond, not, ◌||◌, nat_eq, List, [], ◌∷◌, Some, None, unwrap_or, refl, sym, ap, ◌∙◌, arith}
use Rattle.std.specs.declared.cmp.Ordering.{Ordering}
use Rattle.std.specs.declared.cmp.Ordering.TheVariants.{Less, Equal, Greater}
use Rattle.std.specs.Ordering.{is_eq}
use Rattle.std.specs.Cmp.Lexicographic.{pointwise}
use Rattle.std.specs.List.{list_any, sum_by}
use Rattle.std.specs.FinMap.{find, put, entries, get, insert, remove, empty, get-entries, entries-insert}
use Rattle.std.specs.FinMap.Entries.{by_order}
use Rattle.std.proofs.lemmas.Bool.Decides.{nat_tests}
use Rattle.std.proofs.lemmas.List.Sums.{sum_by-cons}
use Rattle.fx_base.proofs.Entries.{entries-empty}
use Rattle.fx_base.proofs.AtKey.{get_empty}
use Rattle.fx_model.specs.Sinks.{Profiles}
use Rattle.fx_model.specs.declared.ids.ItemKey.{ItemKey}
use Rattle.fx_model.specs.contracts.ids.ItemKeyOrd.TheImpl.{cmp-value}
use Rattle.fx_model.proofs.Orders.{item_total, exact_item}
use Rattle.fx_active.specs.Inputs.{Endpoints, Named}
use Rattle.fx_active.specs.Active.{is_in, is_listed, AreProfiles}
use Rattle.fx_active.specs.Indexes.{Counts, count_at, times_in, times_listed, AreCounts, AreCounted}
use Rattle.fx_active.proofs.MapLemmas.{insert_back}
use Rattle.fx_base.proofs.Cases.{moved, none_more}
use Rattle.fx_base.proofs.Keyed.{remove_absent, get_removed}

-- a key that is new adds its weight
sum_by-put : {K X : Type 0} (R : K → K → Ordering) (f : K × X → ℕ) (k : K) (v : X) (es : List (K × X)) → find R k es ≡ None → sum_by f (put R k v es) ≡ f (k, v) + sum_by f es
sum_by-put R f k v [] h = sum_by-cons f (k, v) []
sum_by-put R f k v (e ∷ es) h =
    elim (R k e.0) as (λ r. cond (is_eq r) (Some e.1) (find R k es) ≡ None → sum_by f (by_order r ((k, v) ∷ e ∷ es) ((e.0, v) ∷ es) (e ∷ put R k v es)) ≡ f (k, v) + sum_by f (e ∷ es)) [
      | Less ↦ λ g. sum_by-cons f (k, v) (e ∷ es)
      | Equal ↦ λ g. cc
      | Greater ↦ λ g. sum_by-cons f e (put R k v es) ∙ ap (λ n. f e + n) (sum_by-put R f k v es g) ∙ moved (f e) (f (k, v)) (sum_by f es) ∙ ap (λ n. f (k, v) + n) (sym (sum_by-cons f e es))
    ] h

pub counts_empty : AreCounts empty empty
counts_empty q = ap (λ o. unwrap_or o 0) (get_empty q) ∙ ap (λ es. times_listed es q) (sym (entries-empty cmp-value.it))

pub times_put : (m : Endpoints) (k : ItemKey) (names : List (List ℕ)) (q : List ℕ) → get m k ≡ None → times_listed (entries (insert m k names)) q ≡ times_in names q + times_listed (entries m) q
times_put m k names q h = ap (λ es. times_listed es q) (entries-insert item_total m k names) ∙ sum_by-put cmp-value.it (λ e. times_in e.1 q) k names (entries m) (sym (get-entries m k) ∙ h)

-- those of an endpoint are among all
pub times_apart : (m : Endpoints) (k : ItemKey) (q : List ℕ) → times_listed (entries m) q ≡ times_in (unwrap_or (get m k) []) q + times_listed (entries (remove m k)) q
times_apart m k q = elim (get m k) as (λ o. get m k ≡ o → times_listed (entries m) q ≡ times_in (unwrap_or o []) q + times_listed (entries (remove m k)) q) [
  | None ↦ λ e. ap (λ n. times_listed (entries n) q) (sym (remove_absent item_total exact_item m k e)) ∙ none_more (times_listed (entries (remove m k)) q)
  | Some names ↦ λ e. ap (λ n. times_listed (entries n) q) (insert_back item_total exact_item m k names e) ∙ times_put (remove m k) k names q (get_removed item_total m k)
] refl

-- ---- listed is counted
some_more : (b c : Bool) (n : ℕ) → c ≡ not (n == 0) → (b || c) ≡ not (cond b 1 0 + n == 0)
some_more true c n h = grind (arith, nat_tests)
some_more false c n h = h ∙ ap (λ k. not (k == 0)) (none_more n)

in_counted : (names : List (List ℕ)) (q : List ℕ) → is_in names q ≡ not (times_in names q == 0)
in_counted [] q = refl
in_counted (x ∷ names) q =
    some_more (pointwise nat_eq x q) (is_in names q) (times_in names q) (in_counted names q)
    ∙ ap (λ n. not (n == 0)) (sym (sum_by-cons (λ y. cond (pointwise nat_eq y q) 1 0) x names))

some_in : (a b : ℕ) (c d : Bool) → c ≡ not (a == 0) → d ≡ not (b == 0) → (c || d) ≡ not (a + b == 0)
some_in a b c d h k = grind (arith, nat_tests)

listed_counted : (es : List (ItemKey × List (List ℕ))) (q : List ℕ) → list_any (λ e. is_in e.1 q) es ≡ not (times_listed es q == 0)
listed_counted [] q = refl
listed_counted (e ∷ es) q =
    some_in (times_in e.1 q) (times_listed es q) (is_in e.1 q) (list_any (λ e. is_in e.1 q) es) (in_counted e.1 q) (listed_counted es q)
    ∙ ap (λ n. not (n == 0)) (sym (sum_by-cons (λ e. times_in e.1 q) e es))

by_not : {A : Type 0} (b : Bool) (x y : A) → cond (not b) x y ≡ cond b y x
by_not true x y = refl
by_not false x y = refl

module _ (counts : Counts) (endpoints : Endpoints) (are : AreCounts counts endpoints) where
  pub is_counted : (q : List ℕ) → not (count_at counts q == 0) ≡ is_listed endpoints q
  is_counted q = ap (λ n. not (n == 0)) (are q) ∙ sym (listed_counted (entries endpoints) q)

  same_output : (ps : Named) (q : List ℕ) → cond (is_listed endpoints q) (Some (get ps q)) None ≡ cond (count_at counts q == 0) None (Some (get ps q))
  same_output ps q = ap (λ b. cond b (Some (get ps q)) None) (sym (is_counted q)) ∙ by_not (count_at counts q == 0) (Some (get ps q)) None

  pub counted_from_listed : (ps : Named) (Q : Profiles) → AreProfiles ps endpoints Q → AreCounted ps counts Q
  counted_from_listed ps Q h q = h q ∙ same_output ps q

  pub listed_from_counted : (ps : Named) (Q : Profiles) → AreCounted ps counts Q → AreProfiles ps endpoints Q
  listed_from_counted ps Q h q = h q ∙ sym (same_output ps q)

among : (a b n : ℕ) → n ≡ a + b → a ≤ n
among a b n h = omega arith

among_more : (a b c n m : ℕ) → n ≡ a + b → m ≡ c + n → a ≤ m
among_more a b c n m h k = omega arith

taken_away : (a b n x : ℕ) → n ≡ a + b → a + x ≡ n → x ≡ b
taken_away a b n x h k = omega arith

exchanged : (a b c n m x : ℕ) → n ≡ a + b → m ≡ c + n → a + x ≡ m → x ≡ c + b
exchanged a b c n m x h k l = omega arith

module _ (m : Endpoints) (counts : Counts) (are : AreCounts counts m) (key : ItemKey) (before : List (List ℕ)) (was : before ≡ unwrap_or (get m key) []) where
  apart : (q : List ℕ) → count_at counts q ≡ times_in before q + times_listed (entries (remove m key)) q
  apart q = are q ∙ times_apart m key q ∙ ap (λ ns. times_in ns q + times_listed (entries (remove m key)) q) (sym was)

  pub listed_before : (q : List ℕ) → times_in before q ≤ count_at counts q
  listed_before q = among _ _ _ (apart q)

  pub counts_removed : (now : Counts) → ((q : List ℕ) → times_in before q + count_at now q ≡ count_at counts q) → AreCounts now (remove m key)
  counts_removed now less q = taken_away _ _ _ _ (apart q) (less q)

  module _ (names : List (List ℕ)) (more : Counts) (add : (q : List ℕ) → count_at more q ≡ times_in names q + count_at counts q) where
    pub listed_among : (q : List ℕ) → times_in before q ≤ count_at more q
    listed_among q = among_more _ _ _ _ _ (apart q) (add q)

    pub counts_put : (now : Counts) → ((q : List ℕ) → times_in before q + count_at now q ≡ count_at more q) → AreCounts now (insert (remove m key) key names)
    counts_put now less q = exchanged _ _ _ _ _ _ (apart q) (add q) (less q) ∙ sym (times_put (remove m key) key names q (get_removed item_total m key))
