-- The sets of a sink, as a set or a member comes or goes.
use Rattle.std.proofs.Common.{◌≡◌, ℕ, ◌==◌, ◌<◌, Bool, true, false, cond, not, ◌&&◌, List, Option, Some, None, IsSome, is_some, refl, sym, ap, ◌∙◌, arith}
use Rattle.std.proofs.lemmas.Bool.Decides.{nat_tests}
use Rattle.std.specs.Ordering.{nat_cmp}
use Rattle.std.specs.Cmp.Lexicographic.{slice_cmp}
use Rattle.std.specs.FinMap as map
use Rattle.fx_base.specs.Set as set
use Rattle.fx_base.specs.Grouped.{same_text}
use Rattle.fx_base.proofs.AtKey.{get_insert, get_remove}
use Rattle.fx_base.proofs.KeyCases.{bytes_exact}
use Rattle.fx_base.proofs.SetAt.{contains_put}
use Rattle.fx_base.proofs.Keyed.{at_key}
use Rattle.fx_model.specs.Messages.{Members, members_of}
use Rattle.fx_model.specs.Pairs.{put}
use Rattle.fx_model.specs.Tables.{Sets}
use Rattle.fx_model.specs.declared.member.Member.{Member}
use Rattle.fx_members.specs.Counts.{Counts, count_at, is_place, same_member, shifted, AreTold, HaveSameKeys}
use Rattle.fx_members.proofs.CountLemmas.{member_total, place_same, unmoved}

-- ---- names
some_either : {X : Type 0} (b : Bool) (o p : Option X) → is_some (cond b o p) ≡ cond b (is_some o) (is_some p)
some_either true o p = refl
some_either false o p = refl

module _ {X : Type 0} (m : map.FinMap (slice_cmp nat_cmp) X) (name : List ℕ) where
  pub key_insert : (x : X) (q : List ℕ) → map.contains_key (map.insert m name x) q ≡ cond (same_text q name) true (map.contains_key m q)
  key_insert x q = ap is_some (get_insert m name x q) ∙ some_either (same_text q name) (Some x) (map.get m q)

  pub key_remove : (q : List ℕ) → map.contains_key (map.remove m name) q ≡ cond (same_text q name) false (map.contains_key m q)
  key_remove q = ap is_some (get_remove m name q) ∙ some_either (same_text q name) None (map.get m q)

  -- a name that is there
  pub keys_kept : (x : X) (now : map.FinMap (slice_cmp nat_cmp) X) → IsSome (map.get m name) → now ≡ map.insert m name x → HaveSameKeys m now
  keys_kept x now there is q = ap (λ n. map.contains_key n q) is ∙ key_insert x q ∙ at_key bytes_exact (map.contains_key m) name q true there

-- ---- members
one_of : (b : Bool) (o p : Option Members) → members_of (cond b o p) ≡ cond b (members_of o) (members_of p)
one_of true o p = refl
one_of false o p = refl

in_either : (b : Bool) (s t : Members) (m : Member) → set.contains (cond b s t) m ≡ cond b (set.contains s m) (set.contains t m)
in_either true s t m = refl
in_either false s t m = refl

both : {A : Type 0} (a b : Bool) (x y z : A) → cond a y z ≡ z → cond a (cond b x y) z ≡ cond (a && b) x z
both true true x y z h = refl
both true false x y z h = h
both false b x y z h = refl

module _ (sets : Sets) (name : List ℕ) where
  members_insert : (s : Members) (q : List ℕ) → members_of (map.get (map.insert sets name s) q) ≡ cond (same_text q name) s (members_of (map.get sets q))
  members_insert s q = ap members_of (get_insert sets name s q) ∙ one_of (same_text q name) (Some s) (map.get sets q)

  members_remove : (q : List ℕ) → members_of (map.get (map.remove sets name) q) ≡ cond (same_text q name) set.empty (members_of (map.get sets q))
  members_remove q = ap members_of (get_remove sets name q) ∙ one_of (same_text q name) None (map.get sets q)

  -- a set without members that comes, or goes
  pub told_set_on : (counts : Counts) (now : Sets) → map.get sets name ≡ None → now ≡ map.insert sets name set.empty → AreTold counts sets → AreTold counts now
  told_set_on counts now none is told q m =
      ap (λ s. set.contains (members_of (map.get s q)) m) is
      ∙ ap (λ s. set.contains s m) (members_insert set.empty q ∙ at_key bytes_exact (λ k. members_of (map.get sets k)) name q set.empty (ap members_of none))
      ∙ told q m

  pub told_set_off : (counts : Counts) (now : Sets) → map.get sets name ≡ Some set.empty → now ≡ map.remove sets name → AreTold counts sets → AreTold counts now
  told_set_off counts now none is told q m =
      ap (λ s. set.contains (members_of (map.get s q)) m) is
      ∙ ap (λ s. set.contains s m) (members_remove q ∙ at_key bytes_exact (λ k. members_of (map.get sets k)) name q set.empty (ap members_of none))
      ∙ told q m

  -- a member that comes, or goes
  at_member : (member : Member) (b : Bool) (now : Sets) → now ≡ map.insert sets name (put (members_of (map.get sets name)) member b)
      → (q : List ℕ) (m : Member) → set.contains (members_of (map.get now q)) m ≡ cond (is_place name member q m) b (set.contains (members_of (map.get sets q)) m)
  at_member member b now is q m =
      let own = members_of (map.get sets name) in
      let here = same_text q name in
      let had = set.contains (members_of (map.get sets q)) m in
      ap (λ s. set.contains (members_of (map.get s q)) m) is
      ∙ ap (λ s. set.contains s m) (members_insert (put own member b) q)
      ∙ in_either here (put own member b) (members_of (map.get sets q)) m
      ∙ ap (λ c. cond here c had) (contains_put member_total own member b m)
      ∙ both here (same_member m member) b (set.contains own m) had (at_key bytes_exact (λ k. set.contains (members_of (map.get sets k)) m) name q (set.contains own m) refl)

-- ---- members and their counts
pub counted : (n : ℕ) → 0 < n → (n == 0) ≡ false
counted n h = grind (arith, nat_tests)

one_more : (p x : Bool) (n : ℕ) → x ≡ not (n == 0) → cond p true x ≡ not (shifted true (cond p 1 0) n == 0)
one_more true x n h = grind (arith, nat_tests)
one_more false x n h = h ∙ ap (λ i. not (i == 0)) (sym (unmoved true n))

more_still : (p x : Bool) (n : ℕ) → x ≡ not (n == 0) → (p ≡ true → (n == 0) ≡ false) → x ≡ not (shifted true (cond p 1 0) n == 0)
more_still true x n h some = h ∙ ap not (some refl) ∙ one_more true x n h
more_still false x n h some = h ∙ ap (λ i. not (i == 0)) (sym (unmoved true n))

one_less : (p x : Bool) (n k : ℕ) → x ≡ not (n == 0) → k ≡ shifted false (cond p 1 0) n → (p ≡ true → (k == 0) ≡ true) → cond p false x ≡ not (k == 0)
one_less true x n k h is none = sym (ap not (none refl))
one_less false x n k h is none = h ∙ ap (λ i. not (i == 0)) (sym (is ∙ unmoved false n))

less_still : (p x : Bool) (n k : ℕ) → x ≡ not (n == 0) → k ≡ shifted false (cond p 1 0) n → (p ≡ true → (n == 0) ≡ false) → (p ≡ true → (k == 0) ≡ false) → x ≡ not (k == 0)
less_still true x n k h is some left = h ∙ ap not (some refl) ∙ sym (ap not (left refl))
less_still false x n k h is some left = h ∙ ap (λ i. not (i == 0)) (sym (is ∙ unmoved false n))

-- what is counted at the member's place
at_place : (name : List ℕ) (member : Member) (c : Counts) (b : Bool) → (count_at c name member == 0) ≡ b → (q : List ℕ) (m : Member) → is_place name member q m ≡ true → (count_at c q m == 0) ≡ b
at_place name member c b is q m h =
    let p = place_same name member q m h in
    ap (λ k. count_at c k m == 0) p.0 ∙ ap (λ k. count_at c name k == 0) p.1 ∙ is

pub stands : (counts : Counts) (name : List ℕ) (member : Member) (sets : Sets) → AreTold counts sets → (b : Bool) → (count_at counts name member == 0) ≡ b → set.contains (members_of (map.get sets name)) member ≡ not b
stands counts name member sets told b is = told name member ∙ ap not is

module _ (counts now : Counts) (name : List ℕ) (member : Member) (sets : Sets) (told : AreTold counts sets) where
  module _ (more : (q : List ℕ) (m : Member) → count_at now q m ≡ shifted true (cond (is_place name member q m) 1 0) (count_at counts q m)) where
    pub told_first : (s : Sets) → s ≡ map.insert sets name (set.insert (members_of (map.get sets name)) member) → AreTold now s
    told_first s is q m =
        at_member sets name member true s is q m ∙ one_more (is_place name member q m) _ (count_at counts q m) (told q m)
        ∙ ap (λ n. not (n == 0)) (sym (more q m))

    pub told_more : (count_at counts name member == 0) ≡ false → AreTold now sets
    told_more some q m =
        more_still (is_place name member q m) _ (count_at counts q m) (told q m) (at_place name member counts false some q m)
        ∙ ap (λ n. not (n == 0)) (sym (more q m))

  module _ (less : (q : List ℕ) (m : Member) → count_at now q m ≡ shifted false (cond (is_place name member q m) 1 0) (count_at counts q m)) where
    pub told_last : (s : Sets) → s ≡ map.insert sets name (set.remove (members_of (map.get sets name)) member) → (count_at now name member == 0) ≡ true → AreTold now s
    told_last s is none q m =
        at_member sets name member false s is q m
        ∙ one_less (is_place name member q m) _ (count_at counts q m) (count_at now q m) (told q m) (less q m) (at_place name member now true none q m)

    pub told_less : (count_at counts name member == 0) ≡ false → (count_at now name member == 0) ≡ false → AreTold now sets
    told_less some left q m =
        less_still (is_place name member q m) _ (count_at counts q m) (count_at now q m) (told q m) (less q m)
        (at_place name member counts false some q m) (at_place name member now false left q m)
