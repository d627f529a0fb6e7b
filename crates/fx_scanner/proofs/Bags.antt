-- Lists of uses, by how many of them pass each test.
use Rattle.std.proofs.Common.{◌≡◌, ℕ, ◌+◌, ◌<◌, ◌==◌, Bool, true, false, cond, not, List, [], ◌∷◌, ◌++◌, length, take, drop, filter, get_or, refl, sym, ap, ◌∙◌, arith, zero-add, add_assoc}
use Rattle.std.specs.List.{AllByRecursion}
use Rattle.std.proofs.lemmas.List.{take_more, take-append-drop}
use Rattle.fx_base.specs.Same.{same_numbers}
use Rattle.fx_model.specs.declared.set_use.SetUse.{SetUse}
use Rattle.fx_scanner.specs.Uses.{times}
use Rattle.fx_scanner.proofs.Texts.{not_both, fails}
use Rattle.fx_base.proofs.Cases.{moved, opposite}

-- one list is the other in another order
abbrev pub AreSame : List SetUse → List SetUse → Type 0
AreSame us vs = (p : SetUse → Bool) → times p us ≡ times p vs

-- ---- numbers

pub zero_left : (a b : ℕ) → a + b ≡ 0 → a ≡ 0
zero_left a b h = omega arith

pub zero_right : (a b : ℕ) → a + b ≡ 0 → b ≡ 0
zero_right a b h = omega arith

pub both_zero : (a b : ℕ) → a ≡ 0 → b ≡ 0 → a + b ≡ 0
both_zero a b g h = omega arith

turned : (a b : ℕ) → a + (b + 0) ≡ b + a
turned a b = omega arith

pub is_more : (n : ℕ) → ((1 + n) == 0) ≡ false
is_more n = fails ((1 + n) == 0) (λ h. let none : 1 + n ≡ 0 = same_numbers (1 + n) 0 h in absurd (omega arith))

pub is_some_number : (n : ℕ) → (n ≡ 0 → ⊥) → (n == 0) ≡ false
is_some_number n some = fails (n == 0) (λ h. some (same_numbers n 0 h))

pub not_none : (n : ℕ) → (n == 0) ≡ false → n ≡ 0 → ⊥
not_none n h none = not_both (n == 0) (ap (λ k. k == 0) none) h

-- ---- tests

pub passes_not : (b : Bool) → cond {A = ℕ} b 1 0 ≡ 0 → b ≡ false
passes_not true h = absurd (omega arith)
passes_not false h = refl

pub none_if : (b : Bool) → b ≡ false → cond {A = ℕ} b 1 0 ≡ 0
none_if b h = ap (λ c. cond {A = ℕ} c 1 0) h

pub not_true : (b : Bool) → not b ≡ false → b ≡ true
not_true true h = refl
not_true false h = cc

pub not_false : (b : Bool) → b ≡ true → not b ≡ false
not_false b h = ap not h

-- where q and r hold of none, p does not either
pub none_by : (p q r : SetUse → Bool) → ((v : SetUse) → p v ≡ true → q v ≡ false → r v ≡ true) → (us : List SetUse) → times q us ≡ 0 → times r us ≡ 0 → times p us ≡ 0
none_by p q r cover [] hq hr = refl
none_by p q r cover (u ∷ us) hq hr =
    let qu : q u ≡ false = passes_not (q u) (zero_left (cond (q u) 1 0) (times q us) hq) in
    let ru : r u ≡ false = passes_not (r u) (zero_left (cond (r u) 1 0) (times r us) hr) in
    let pu : p u ≡ false = fails (p u) (λ h. not_both (r u) (cover u h qu) ru) in
    both_zero (cond (p u) 1 0) (times p us) (none_if (p u) pu) (none_by p q r cover us (zero_right (cond (q u) 1 0) (times q us) hq) (zero_right (cond (r u) 1 0) (times r us) hr))

pub no_times : (us : List SetUse) → times (λ _. false) us ≡ 0
no_times [] = refl
no_times (u ∷ us) = both_zero 0 (times (λ _. false) us) refl (no_times us)

-- where r holds of none, p does not either
pub none_with : (p r : SetUse → Bool) → ((v : SetUse) → p v ≡ true → r v ≡ true) → (us : List SetUse) → times r us ≡ 0 → times p us ≡ 0
none_with p r cover us hr = none_by p (λ _. false) r (λ v h _. cover v h) us (no_times us) hr

pub none_from_all : (p : SetUse → Bool) (us : List SetUse) → AllByRecursion (λ u. p u ≡ false) us → times p us ≡ 0
none_from_all p [] h = refl
none_from_all p (u ∷ us) h = both_zero (cond (p u) 1 0) (times p us) (none_if (p u) h.0) (none_from_all p us h.1)

pub all_from_none : (p : SetUse → Bool) (us : List SetUse) → times p us ≡ 0 → AllByRecursion (λ u. p u ≡ false) us
all_from_none p [] h = tt
all_from_none p (u ∷ us) h = (passes_not (p u) (zero_left (cond (p u) 1 0) (times p us) h), all_from_none p us (zero_right (cond (p u) 1 0) (times p us) h))

-- ---- parts of lists

pub times-append : (p : SetUse → Bool) (us vs : List SetUse) → times p (us ++ vs) ≡ times p us + times p vs
times-append p [] vs = sym (zero-add (times p vs))
times-append p (u ∷ us) vs = ap (λ n. cond (p u) 1 0 + n) (times-append p us vs) ∙ sym (add_assoc (cond (p u) 1 0) (times p us) (times p vs))

pub none_in_first : (p : SetUse → Bool) (us vs : List SetUse) → times p (us ++ vs) ≡ 0 → times p us ≡ 0
none_in_first p us vs h = zero_left (times p us) (times p vs) (sym (times-append p us vs) ∙ h)

pub none_in_second : (p : SetUse → Bool) (us vs : List SetUse) → times p (us ++ vs) ≡ 0 → times p vs ≡ 0
none_in_second p us vs h = zero_right (times p us) (times p vs) (sym (times-append p us vs) ∙ h)

pub none_in_both : (p : SetUse → Bool) (us vs : List SetUse) → times p us ≡ 0 → times p vs ≡ 0 → times p (us ++ vs) ≡ 0
none_in_both p us vs g h = times-append p us vs ∙ both_zero (times p us) (times p vs) g h

pub none_in_front : (p : SetUse → Bool) (us : List SetUse) (i : ℕ) → times p us ≡ 0 → times p (take i us) ≡ 0
none_in_front p us i h = none_in_first p (take i us) (drop i us) (ap (times p) (take-append-drop i us) ∙ h)

-- a use more behind the front
pub one_more : (us others : List SetUse) (i : ℕ) (u : SetUse) → i < length us → u ≡ get_or us i u → AreSame (u ∷ (take i us ++ others)) (take (i + 1) us ++ others)
one_more us others i u within is p =
    let next : times p (take (i + 1) us) ≡ cond (p u) 1 0 + times p (take i us) =
    ap (times p) (take_more us i u within) ∙ times-append p (take i us) (get_or us i u ∷ [])
    ∙ turned (times p (take i us)) (cond (p (get_or us i u)) 1 0)
    ∙ ap (λ v. cond (p v) 1 0 + times p (take i us)) (sym is) in
    ap (λ n. cond (p u) 1 0 + n) (times-append p (take i us) others)
    ∙ sym (add_assoc (cond (p u) 1 0) (times p (take i us)) (times p others))
    ∙ ap (λ n. n + times p others) (sym next)
    ∙ sym (times-append p (take (i + 1) us) others)

-- two lists in the other order
pub swapped : (us vs others : List SetUse) → AreSame (us ++ (vs ++ others)) (vs ++ (us ++ others))
swapped us vs others p =
    times-append p us (vs ++ others) ∙ ap (λ n. times p us + n) (times-append p vs others)
    ∙ moved (times p us) (times p vs) (times p others)
    ∙ sym (times-append p vs (us ++ others) ∙ ap (λ n. times p vs + n) (times-append p us others))

-- what fails a test and what passes it
module _ (q : SetUse → Bool) where
  times-parts : (p : SetUse → Bool) (us : List SetUse) → times p us ≡ times p (filter (λ u. not (q u)) us) + times p (filter q us)
  times-parts p [] = refl
  times-parts p (u ∷ us) =
      let one : ℕ = cond (p u) 1 0 in
      let gone = filter (λ v. not (q v)) us in
      let kept = filter q us in
      ap (λ n. one + n) (times-parts p us)
      ∙ elim (q u) as (λ b. one + (times p gone + times p kept) ≡ times p (cond (not b) (u ∷ gone) gone) + times p (cond b (u ∷ kept) kept)) [
        | true ↦ moved one (times p gone) (times p kept)
        | false ↦ sym (add_assoc one (times p gone) (times p kept))
      ]

  pub parted : (us others : List SetUse) → AreSame (us ++ others) (filter (λ u. not (q u)) us ++ (filter q us ++ others))
  parted us others p =
      times-append p us others ∙ ap (λ n. n + times p others) (times-parts p us)
      ∙ add_assoc (times p (filter (λ u. not (q u)) us)) (times p (filter q us)) (times p others)
      ∙ sym (times-append p (filter (λ u. not (q u)) us) (filter q us ++ others) ∙ ap (λ n. times p (filter (λ u. not (q u)) us) + n) (times-append p (filter q us) others))

  pub none_passing : (p : SetUse → Bool) → ((v : SetUse) → q v ≡ true → p v ≡ false) → (us : List SetUse) → times p (filter q us) ≡ 0
  none_passing p h [] = refl
  none_passing p h (u ∷ us) =
      elim (q u) as (λ b. q u ≡ b → times p (cond b (u ∷ filter q us) (filter q us)) ≡ 0) [
        | true ↦ λ e. both_zero (cond (p u) 1 0) (times p (filter q us)) (none_if (p u) (h u e)) (none_passing p h us)
        | false ↦ λ e. none_passing p h us
      ] refl
