use Rattle.std.proofs.Common.{◌≡◌, ◌∷◌, ◌++◌, ◌+◌, ◌-◌, ◌*◌, ◌≤◌, ◌<◌, ◌^◌, ℕ, List, [], Option, Some, None, IfSome, IfNone, sym, ap, subst, ◌∙◌, arith, inl, inr}
use Rattle.std.specs.Fmt.{decimal}
use Rattle.std.specs.Int.{IsInRange}
use Rattle.std.specs.Char.{IsNotAsciiDigit}
use Rattle.fx_base.specs.Forms.{Begins, IsNumber, digits_of}
use Rattle.fx_base.proofs.Decimals.{begins_within, not_digit, not_after_zero, first_digit, next_digit}
use Rattle.fx_base.proofs.number.longer.Goals as goal

writes : (r : Option ℕ) (v : ℕ) (l : List ℕ) → decimal v ≡ l → IfSome r (λ s. s ≡ v) → IfSome r (λ s. decimal s ≡ l)
writes None v l e h = tt
writes (Some s) v l e h = ap decimal h ∙ e

within : (r : Option ℕ) (low high v : ℕ) → high < 2 ^ 16 → v < 2 ^ 64 → IfSome r (λ s. s ≡ v) → IfSome r (λ s. Begins (IsNumber low high) (decimal v)) → IfSome r (λ s. s ≤ high)
within None low high v fits small h b = tt
within (Some s) low high v fits small h b = let g : v ≤ high = begins_within low high v fits small b in omega arith

no_more : (r : Option ℕ) (low high v : ℕ) (l : List ℕ) → decimal v ≡ l → IfNone r (¬ Begins (IsNumber low high) (decimal v)) → IfNone r (¬ Begins (IsNumber low high) l)
no_more None low high v l e h = λ b. h (subst (Begins (IsNumber low high)) (sym e) b)
no_more (Some s) low high v l e h = tt

-- the digits read so far, with one more
one_digit : (read : Option ℕ) (last c : ℕ) → read ≡ None → IsInRange 48 57 c → last ≡ c - 48 → decimal last ≡ digits_of read ++ c ∷ []
one_digit read last c e h is = ap decimal is ∙ first_digit c h ∙ ap (λ (r : Option ℕ). digits_of r ++ c ∷ []) (sym e)

one_more : (read : Option ℕ) (value last c : ℕ) → read ≡ Some value → IsInRange 48 57 c → last ≡ c - 48 → 0 < value → value < 2 ^ 20 → decimal (value * 10 + last) ≡ digits_of read ++ c ∷ []
one_more read value last c e h is pos small = ap (λ (n : ℕ). decimal (value * 10 + n)) is ∙ next_digit value c h pos small ∙ ap (λ (r : Option ℕ). digits_of r ++ c ∷ []) (sym e)

not_range : (c : ℕ) → IsNotAsciiDigit c → ¬ IsInRange 48 57 c
not_range c out h = elim out [ inl low ↦ absurd (omega arith) | inr high ↦ absurd (omega arith) ]

pub returns-then-not-is_ascii_digit-clause-none : goal.returns-then-not-is_ascii_digit-clause-none
returns-then-not-is_ascii_digit-clause-none c =
    not_digit c.args.low c.args.high c.args.digit (digits_of c.args.read) c.requires.range.1 (not_range c.args.digit c.if-not-is_ascii_digit.ensures.cases)

pub returns-in-None-clause-digits : goal.returns-in-None-clause-digits
returns-in-None-clause-digits c = writes c.begun.result _ _ (one_digit c.args.read c.from-last.result c.args.digit c.in-None.is c.if-not-is_ascii_digit.ensures.cases c.from-last.ensures) c.begun.ensures.same

pub returns-in-None-clause-fits : goal.returns-in-None-clause-fits
returns-in-None-clause-fits c = within c.begun.result c.args.low c.args.high c.from-last.result c.requires.range.1 (omega arith) c.begun.ensures.same c.begun.ensures.begins

pub returns-in-None-clause-none : goal.returns-in-None-clause-none
returns-in-None-clause-none c = no_more c.begun.result c.args.low c.args.high c.from-last.result _ (one_digit c.args.read c.from-last.result c.args.digit c.in-None.is c.if-not-is_ascii_digit.ensures.cases c.from-last.ensures) c.begun.ensures.none

pub returns-in-Some-eq0-clause-none : goal.returns-in-Some-eq0-clause-none
returns-in-Some-eq0-clause-none c =
    let is : c.args.read ≡ Some 0 = c.in-Some-eq0.is ∙ ap Some (sym c.in-Some-eq0.field-0-is ∙ c.in-Some-eq0.field-0-test) in
    λ b. not_after_zero c.args.low c.args.high c.args.digit c.requires.range.1 (subst (λ (r : Option ℕ). Begins (IsNumber c.args.low c.args.high) (digits_of r ++ c.args.digit ∷ [])) is b)

pos : (value : ℕ) → (value ≡ 0 → ⊥) → 0 < value
pos value h = omega arith

grown : (c : goal.After-begun-in-Some) → decimal (c.in-Some.value * 10 + c.from-last.result) ≡ digits_of c.args.read ++ c.args.digit ∷ []
grown c =
    let most : c.in-Some.value ≤ c.args.high = rw c.in-Some.is at c.requires.read in
    one_more c.args.read c.in-Some.value c.from-last.result c.args.digit c.in-Some.is c.if-not-is_ascii_digit.ensures.cases c.from-last.ensures (pos c.in-Some.value (λ z. c.in-Some.value-test.1 (cc))) (omega (arith, most, c.requires.range))

pub returns-in-Some-clause-digits : goal.returns-in-Some-clause-digits
returns-in-Some-clause-digits c = writes c.begun-in-Some.result _ _ (grown c) c.begun-in-Some.ensures.same

pub returns-in-Some-clause-fits : goal.returns-in-Some-clause-fits
returns-in-Some-clause-fits c =
    let most : c.in-Some.value ≤ c.args.high = rw c.in-Some.is at c.requires.read in
    within c.begun-in-Some.result c.args.low c.args.high _ c.requires.range.1 (omega (arith, most, c.requires.range)) c.begun-in-Some.ensures.same c.begun-in-Some.ensures.begins

pub returns-in-Some-clause-none : goal.returns-in-Some-clause-none
returns-in-Some-clause-none c = no_more c.begun-in-Some.result c.args.low c.args.high _ _ (grown c) c.begun-in-Some.ensures.none
