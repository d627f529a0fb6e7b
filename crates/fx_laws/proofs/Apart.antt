-- Two maps with keys of bytes: when none of their entries differ, and how they come nearer by one key.
use Rattle.std.proofs.Common.{◌≡◌, ℕ, ◌+◌, Bool, true, false, cond, not, ◌&&◌, List, Option, Some, None, is_some, refl, sym, ap, ◌∙◌, arith}
use Rattle.std.specs.List.{find, count_by}
use Rattle.std.specs.Option.{option_eq}
use Rattle.std.specs.Ordering.{nat_cmp, eq_by_cmp}
use Rattle.std.specs.Cmp.{eq_by_cmp_equiv}
use Rattle.std.specs.Cmp.Lexicographic.{slice_cmp, nat_list_cmp_total}
use Rattle.std.specs.FinMap as maps
use Rattle.std.specs.FinMap.Entries as list
use Rattle.fx_base.specs.Extended.{put_or_removed, taken_from}
use Rattle.fx_base.specs.Same.{same_option}
use Rattle.fx_base.proofs.AtKey.{get_insert, get_remove, get_remove_same, get_insert_same, same_by_get}
use Rattle.fx_base.proofs.KeyCases.{bytes_exact}
use Rattle.fx_base.proofs.Found.{each, of_found, found_passes, none_found, all_fail, entries_found, of_entries}
use Rattle.fx_base.proofs.Taken.{put_back}
use Rattle.fx_base.proofs.Counting.{count-put, count_alike, count-put_failing}
use Rattle.fx_model.specs.Messages.{Named, is_absent, is_changed, is_other, first_absent, first_changed, first_other, apart}

not_false : (b : Bool) → not b ≡ false → b ≡ true
not_false true e = refl
not_false false e = cc

module _ {X : Type 0} where
  -- an entry that is found is there
  pub found_there : (test : List ℕ × X → Bool) (m : Named X) (e : List ℕ × X) → find test (maps.entries m) ≡ Some e → maps.get m e.0 ≡ Some e.1
  found_there test m e is = of_found (λ f. maps.get m f.0 ≡ Some f.1) test (maps.entries m) e (entries_found nat_list_cmp_total m) is

  -- where none is found, the test fails at all that is there
  pub none_passes : (test : List ℕ × X → Bool) (m : Named X) → find test (maps.entries m) ≡ None → (q : List ℕ) (x : X) → maps.get m q ≡ Some x → test (q, x) ≡ false
  none_passes test m none q x is = of_entries nat_list_cmp_total bytes_exact (λ e. test e ≡ false) m q x (all_fail test (maps.entries m) none) is

  -- all that is there is there in n
  pub none_absent : (m n : Named X) → first_absent m n ≡ None → (q : List ℕ) (x : X) → maps.get n q ≡ Some x → maps.contains_key m q ≡ true
  none_absent m n none q x is = not_false _ (none_passes (is_absent m) n none q x is)

module _ {X : Type 0} (eq : X → X → Bool) (same : (x y : X) → eq x y ≡ true → x ≡ y) where
  pub none_changed : (m n : Named X) → first_changed eq m n ≡ None → (q : List ℕ) (x : X) → maps.get n q ≡ Some x → maps.get m q ≡ Some x
  none_changed m n none q x is = same_option eq same (maps.get m q) (Some x) (not_false _ (none_passes (is_changed eq m) n none q x is))

  -- what is there, and not new and not other, is the same
  pub none_other : (m n : Named X) → first_absent m n ≡ None → first_other eq m n ≡ None → (q : List ℕ) (x : X) → maps.get n q ≡ Some x → maps.get m q ≡ Some x
  none_other m n absent other q x is =
      let there : maps.contains_key m q ≡ true = none_absent m n absent q x is in
      let passes = none_passes (is_other eq m) n other q x is in
      same_option eq same (maps.get m q) (Some x) (not_false _ (ap (λ b. b && is_changed eq m (q, x)) (sym there) ∙ passes))

  same_at : (m n : Named X) → ((q : List ℕ) (x : X) → maps.get n q ≡ Some x → maps.get m q ≡ Some x) → first_absent n m ≡ None → (q : List ℕ) (o : Option X) → maps.get n q ≡ o → maps.get m q ≡ o
  same_at m n holds gone q (Some x) is = holds q x is
  same_at m n holds gone q None is =
      elim (maps.get m q) as (λ o. maps.get m q ≡ o → o ≡ None) [
        | None ↦ λ p. refl
        | Some x ↦ λ p. let there : maps.contains_key n q ≡ true = none_absent n m gone q x p in let lacks : is_some (maps.get n q) ≡ false = ap is_some is in cc
      ] refl

  pub same_maps : (m n : Named X) → ((q : List ℕ) (x : X) → maps.get n q ≡ Some x → maps.get m q ≡ Some x) → first_absent n m ≡ None → m ≡ n
  same_maps m n holds gone = same_by_get m n (λ q. same_at m n holds gone q (maps.get n q) refl)

-- ---- a map and itself

module _ {X : Type 0} (eq : X → X → Bool) (itself : (x : X) → eq x x ≡ true) where
  pub unchanged : (m : Named X) → first_changed eq m m ≡ None
  unchanged m =
      none_found (is_changed eq m) (maps.entries m)
      (each (λ e. maps.get m e.0 ≡ Some e.1) (λ e. is_changed eq m e ≡ false) (λ e is. ap (λ o. not (option_eq eq o (Some e.1))) is ∙ ap not (itself e.1)) (maps.entries m) (entries_found nat_list_cmp_total m))

  pub not_other : (m : Named X) → first_other eq m m ≡ None
  not_other m =
      none_found (is_other eq m) (maps.entries m)
      (each (λ e. maps.get m e.0 ≡ Some e.1) (λ e. is_other eq m e ≡ false) (λ e is. ap (λ o. is_some o && not (option_eq eq o (Some e.1))) is ∙ ap not (itself e.1)) (maps.entries m) (entries_found nat_list_cmp_total m))

pub not_absent : {X : Type 0} (m : Named X) → first_absent m m ≡ None
not_absent m =
    none_found (is_absent m) (maps.entries m)
    (each (λ e. maps.get m e.0 ≡ Some e.1) (λ e. is_absent m e ≡ false) (λ e is. ap (λ o. not (is_some o)) is) (maps.entries m) (entries_found nat_list_cmp_total m))

-- ---- nearer by one key

not_true : (b : Bool) → not b ≡ true → b ≡ false
not_true true e = cc
not_true false e = refl

both_so : (a b : Bool) → (a && b) ≡ true → b ≡ true
both_so true b e = e
both_so false b e = cc

lacks_it : {X : Type 0} (eq : X → X → Bool) (o : Option X) (x : X) → not (is_some o) ≡ true → option_eq eq o (Some x) ≡ false
lacks_it eq None x e = refl
lacks_it eq (Some y) x e = cc

has_it : {X : Type 0} (eq : X → X → Bool) (o : Option X) (x : X) → not (is_some o) ≡ true → option_eq eq (Some x) o ≡ false
has_it eq None x e = refl
has_it eq (Some y) x e = cc

nearer_put : (a b c d e f g : ℕ) → a ≡ 0 + c → d ≡ 1 + e → c ≡ e → b ≡ f → (a + b) + 1 ≡ d + f
nearer_put a b c d e f g p q r s = omega arith

nearer_gone : (a b c d : ℕ) → a ≡ b → d ≡ 1 + c → (a + c) + 1 ≡ b + d
nearer_gone a b c d p q = omega arith

module _ {X : Type 0} (eq : X → X → Bool) where
  -- away from the key that is put or removed, a value is other exactly where it was
  away : (m m' : Named X) (k : List ℕ) → ((q : List ℕ) → eq_by_cmp (slice_cmp nat_cmp) q k ≡ false → maps.get m' q ≡ maps.get m q) → (e : List ℕ × X) → eq_by_cmp (slice_cmp nat_cmp) k e.0 ≡ false → is_changed eq m' e ≡ is_changed eq m e
  away m m' k alike e other = ap (λ o. not (option_eq eq o (Some e.1))) (alike e.0 ((eq_by_cmp_equiv nat_list_cmp_total).symm e.0 k ∙ other))

  pub apart_put : (itself : (x : X) → eq x x ≡ true) (m n : Named X) (k : List ℕ) (x : X) → maps.get n k ≡ Some x → option_eq eq (maps.get m k) (Some x) ≡ false → apart eq (maps.insert m k x) n + 1 ≡ apart eq m n
  apart_put itself m n k x is differs =
      let m' = maps.insert m k x in
      let rest = maps.entries (maps.remove n k) in
      let none : list.find (slice_cmp nat_cmp) k rest ≡ None = sym (maps.get-entries (maps.remove n k) k) ∙ get_remove_same n k in
      let split : maps.entries n ≡ list.put (slice_cmp nat_cmp) k x rest = ap maps.entries (sym (put_back n k x is)) ∙ maps.entries-insert nat_list_cmp_total (maps.remove n k) k x in
      let after : count_by (is_changed eq m') (maps.entries n) ≡ 0 + count_by (is_changed eq m') rest =
      ap (count_by (is_changed eq m')) split ∙ count-put (slice_cmp nat_cmp) (is_changed eq m') k x rest none
      ∙ ap (λ o. cond (not (option_eq eq o (Some x))) 1 0 + count_by (is_changed eq m') rest) (get_insert_same m k x)
      ∙ ap (λ b. cond (not b) 1 0 + count_by (is_changed eq m') rest) (itself x) in
      let before : count_by (is_changed eq m) (maps.entries n) ≡ 1 + count_by (is_changed eq m) rest =
      ap (count_by (is_changed eq m)) split ∙ count-put (slice_cmp nat_cmp) (is_changed eq m) k x rest none
      ∙ ap (λ b. cond (not b) 1 0 + count_by (is_changed eq m) rest) differs in
      let alike : count_by (is_changed eq m') rest ≡ count_by (is_changed eq m) rest =
      count_alike (slice_cmp nat_cmp) (is_changed eq m') (is_changed eq m) k
      (away m m' k (λ q other. get_insert m k x q ∙ ap (λ b. cond b (Some x) (maps.get m q)) other)) rest none in
      let gone : count_by (is_absent n) (maps.entries m') ≡ count_by (is_absent n) (maps.entries m) =
      ap (count_by (is_absent n)) (maps.entries-insert nat_list_cmp_total m k x)
      ∙ count-put_failing (slice_cmp nat_cmp) (λ q. not (maps.contains_key n q)) k x (maps.entries m) (ap (λ o. not (is_some o)) is) in
      nearer_put _ _ _ _ _ _ 0 after before alike gone

  pub apart_gone : (m n : Named X) (k : List ℕ) (y : X) → maps.get n k ≡ None → maps.get m k ≡ Some y → apart eq (maps.remove m k) n + 1 ≡ apart eq m n
  apart_gone m n k y is there =
      let m' = maps.remove m k in
      let none : list.find (slice_cmp nat_cmp) k (maps.entries n) ≡ None = sym (maps.get-entries n k) ∙ is in
      let fresh : list.find (slice_cmp nat_cmp) k (maps.entries m') ≡ None = sym (maps.get-entries m' k) ∙ get_remove_same m k in
      let split : maps.entries m ≡ list.put (slice_cmp nat_cmp) k y (maps.entries m') = ap maps.entries (sym (put_back m k y there)) ∙ maps.entries-insert nat_list_cmp_total m' k y in
      let alike : count_by (is_changed eq m') (maps.entries n) ≡ count_by (is_changed eq m) (maps.entries n) =
      count_alike (slice_cmp nat_cmp) (is_changed eq m') (is_changed eq m) k
      (away m m' k (λ q other. get_remove m k q ∙ ap (λ b. cond b None (maps.get m q)) other)) (maps.entries n) none in
      let before : count_by (is_absent n) (maps.entries m) ≡ 1 + count_by (is_absent n) (maps.entries m') =
      ap (count_by (is_absent n)) split ∙ count-put (slice_cmp nat_cmp) (is_absent n) k y (maps.entries m') fresh
      ∙ ap (λ o. cond (not (is_some o)) 1 0 + count_by (is_absent n) (maps.entries m')) is in
      nearer_gone _ _ _ _ alike before

  -- a key that differs is taken over, and then one fewer differs
  pub apart-taken : (itself : (x : X) → eq x x ≡ true) (m n : Named X) (k : List ℕ) → option_eq eq (maps.get m k) (maps.get n k) ≡ false → apart eq (taken_from m n k) n + 1 ≡ apart eq m n
  apart-taken itself m n k differs =
      elim (maps.get n k) as (λ o. maps.get n k ≡ o → option_eq eq (maps.get m k) o ≡ false → apart eq (put_or_removed m k o) n + 1 ≡ apart eq m n) [
        | None ↦ λ is d. elim (maps.get m k) as (λ o. maps.get m k ≡ o → option_eq eq o None ≡ false → apart eq (maps.remove m k) n + 1 ≡ apart eq m n) [
          | None ↦ λ at e. cc
          | Some y ↦ λ at e. apart_gone m n k y is at
        ] refl d
        | Some x ↦ λ is d. apart_put itself m n k x is d
      ] refl differs

  -- an entry that is changed, and one that is gone, differ
  pub changed_differs : (m n : Named X) (e : List ℕ × X) → first_changed eq m n ≡ Some e → option_eq eq (maps.get m e.0) (maps.get n e.0) ≡ false
  changed_differs m n e is =
      ap (option_eq eq (maps.get m e.0)) (found_there (is_changed eq m) n e is) ∙ not_true _ (found_passes (is_changed eq m) (maps.entries n) e is)

  pub absent_differs : (m n : Named X) (e : List ℕ × X) → first_absent m n ≡ Some e → option_eq eq (maps.get m e.0) (maps.get n e.0) ≡ false
  absent_differs m n e is =
      ap (option_eq eq (maps.get m e.0)) (found_there (is_absent m) n e is) ∙ lacks_it eq (maps.get m e.0) e.1 (found_passes (is_absent m) (maps.entries n) e is)

  pub other_differs : (m n : Named X) (e : List ℕ × X) → first_other eq m n ≡ Some e → option_eq eq (maps.get m e.0) (maps.get n e.0) ≡ false
  other_differs m n e is =
      ap (option_eq eq (maps.get m e.0)) (found_there (is_other eq m) n e is) ∙ not_true _ (both_so _ _ (found_passes (is_other eq m) (maps.entries n) e is))

  pub gone_differs : (m n : Named X) (e : List ℕ × X) → first_absent n m ≡ Some e → option_eq eq (maps.get m e.0) (maps.get n e.0) ≡ false
  gone_differs m n e is =
      ap (λ o. option_eq eq o (maps.get n e.0)) (found_there (is_absent n) m e is) ∙ has_it eq (maps.get n e.0) e.1 (found_passes (is_absent n) (maps.entries m) e is)
