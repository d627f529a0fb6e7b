-- Counts on a walk over a list of members.
use Rattle.std.proofs.Common.{◌≡◌, ◌≤◌, ◌<◌, ℕ, ◌+◌, ◌-◌, Bool, true, false, cond, ◌&&◌, List, [], ◌∷◌, Option, Some, None, refl, sym, ap, ◌∙◌, subst, arith}
use Rattle.std.specs.Cmp.Lexicographic.{nat_list_cmp_total}
use Rattle.fx_model.specs.declared.member.Member.{Member}
use Rattle.fx_model.specs.declared.resources.Item.{Item}
use Rattle.fx_model.specs.declared.set_use.SetUse.{SetUse}
use Rattle.fx_members.specs.Counts.{Counts, count_at, gives, is_place, same_member, shifted, times}
use Rattle.fx_base.specs.Grouped.{Texts, same_text}
use Rattle.fx_base.proofs.Keyed.{own_key}
use Rattle.fx_members.specs.Indexes.{has_text_of}
use Rattle.fx_members.proofs.CountLemmas.{member_total, unmoved}

one_of : (more b e : Bool) (t n : ℕ) → shifted more (cond b t 0) (shifted more (cond (b && e) 1 0) n) ≡ shifted more (cond b (cond e 1 0 + t) 0) n
one_of true true true t n = omega arith
one_of true true false t n = omega arith
one_of true false e t n = omega arith
one_of false true true t n = omega arith
one_of false true false t n = omega arith
one_of false false e t n = omega arith

none_of : (more b : Bool) (n : ℕ) → shifted more (cond b 0 0) n ≡ n
none_of more true n = unmoved more n
none_of more false n = unmoved more n

one_left : (t n : ℕ) → 1 + t ≤ n → 0 < n
one_left t n h = omega arith

rest_left : (e : Bool) (t n : ℕ) → cond e 1 0 + t ≤ n → t ≤ n - cond e 1 0
rest_left true t n h = omega arith
rest_left false t n h = omega arith

module _ (name : List ℕ) (ms : List Member) (more : Bool) (counts : Counts) where
  -- these are left
  abbrev pub MembersSoFar : Counts → List Member → Type 0
  MembersSoFar now rest = (q : List ℕ) (m : Member) → shifted more (cond (same_text q name) (times rest m) 0) (count_at now q m) ≡ shifted more (cond (same_text q name) (times ms m) 0) (count_at counts q m)

  pub members_end : (now : Counts) → MembersSoFar now [] → (q : List ℕ) (m : Member) → count_at now q m ≡ shifted more (cond (same_text q name) (times ms m) 0) (count_at counts q m)
  members_end now h q m = sym (none_of more (same_text q name) (count_at now q m)) ∙ h q m

  pub members_next : (now then : Counts) (k : Member) (rest : List Member) → MembersSoFar now (k ∷ rest)
      → ((q : List ℕ) (m : Member) → count_at then q m ≡ shifted more (cond (is_place name k q m) 1 0) (count_at now q m)) → MembersSoFar then rest
  members_next now then k rest h is q m =
      ap (shifted more (cond (same_text q name) (times rest m) 0)) (is q m)
      ∙ one_of more (same_text q name) (same_member m k) (times rest m) (count_at now q m) ∙ h q m

module _ (name : List ℕ) (now : Counts) (k : Member) (rest : List Member) (within : (m : Member) → times (k ∷ rest) m ≤ count_at now name m) where
  -- what comes next is still counted
  pub member_left : 0 < count_at now name k
  member_left = one_left (times rest k) (count_at now name k) (subst (λ b. cond b 1 0 + times rest k ≤ count_at now name k) (own_key member_total k) (within k))

  pub members_left : (then : Counts) → ((q : List ℕ) (m : Member) → count_at then q m ≡ shifted false (cond (is_place name k q m) 1 0) (count_at now q m)) → (m : Member) → times rest m ≤ count_at then name m
  members_left then is m =
      subst (λ n. times rest m ≤ n)
      (sym (is name m ∙ ap (λ b. shifted false (cond (b && same_member m k) 1 0) (count_at now name m)) (own_key nat_list_cmp_total name)))
      (rest_left (same_member m k) (times rest m) (count_at now name m) (within m))

-- ---- where a set or an item isn't there
idle : (more b : Bool) (g n : ℕ) → g ≡ 0 → n ≡ shifted more (cond b g 0) n
idle more b g n none = sym (ap (λ k. shifted more (cond b k 0) n) none ∙ none_of more b n)

no_set : (o : Option SetUse) (x : Option Item) (m : Member) → o ≡ None → gives o x m ≡ 0
no_set o x m none = ap (λ p. gives p x m) none

nothing_given : (o : Option SetUse) (m : Member) → gives o None m ≡ 0
nothing_given None m = refl
nothing_given (Some u) m = refl

pub without_set : (more b : Bool) (o : Option SetUse) (x : Option Item) (m : Member) (n : ℕ) → o ≡ None → n ≡ shifted more (cond b (gives o x m) 0) n
without_set more b o x m n none = idle more b (gives o x m) n (no_set o x m none)

pub without_item : (more b : Bool) (o : Option SetUse) (x : Option Item) (m : Member) (n : ℕ) → x ≡ None → n ≡ shifted more (cond b (gives o x m) 0) n
without_item more b o x m n none = idle more b (gives o x m) n (ap (λ y. gives o y m) none ∙ nothing_given o m)

no_text : (o : Option SetUse) → has_text_of None o ≡ false
no_text None = refl
no_text (Some u) = refl

pub without_texts : (more : Bool) (texts : Option Texts) (o : Option SetUse) (g n : ℕ) → texts ≡ None → n ≡ shifted more (cond (has_text_of texts o) g 0) n
without_texts more texts o g n none = sym (ap (λ b. shifted more (cond b g 0) n) (ap (λ ts. has_text_of ts o) none ∙ no_text o) ∙ unmoved more n)
