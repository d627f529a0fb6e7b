-- The digits of a number, and the numbers that begin with given digits.
use Rattle.std.proofs.Common.{◌≡◌, ◌<◌, ◌≤◌, ◌+◌, ◌*◌, ◌^◌, ◌/◌, ◌%◌, ◌-◌, ℕ, zero, suc, List, [], ◌∷◌, ◌++◌, length, get_or, max, refl, sym, ap, subst, ◌∙◌, arith, inl, inr, append_assoc, length-append}
use Rattle.std.specs.Fmt.{decimal}
use Rattle.std.specs.Char.{digit_value}
use Rattle.std.specs.Str.Parse.{AllDigits, digits_value, digits_value_after}
use Rattle.std.proofs.lemmas.Fmt.{decimal_is_IsNumeral, decimal_step, decimal_digit, first_decimal}
use Rattle.std.proofs.lemmas.List.{append-nil, get_or-append-add}
use Rattle.std.proofs.lemmas.Str.Parse.{digit_at}
use Rattle.std.specs.Int.{IsInRange}
use Rattle.std.proofs.lemmas.Bool.{cases_lt}
use Rattle.std.proofs.Math.Nat.{pow-succ', mul-le-mul_left, mul-le-mul_right, one-le-mul, mul_assoc}
use Rattle.fx_base.specs.Forms.{Begins, IsNumber}

after-append : (n : ℕ) (xs ys : List ℕ) → digits_value_after 10 n (xs ++ ys) ≡ digits_value_after 10 (digits_value_after 10 n xs) ys
after-append n [] ys = refl
after-append n (c ∷ xs) ys = after-append (n * 10 + digit_value c) xs ys

AllDigits-back : (xs ys : List ℕ) → AllDigits 10 (xs ++ ys) → AllDigits 10 ys
AllDigits-back [] ys h = h
AllDigits-back (c ∷ xs) ys h = AllDigits-back xs ys h.1

ten : (k : ℕ) → 10 ^ suc k ≡ 10 * 10 ^ k
ten k = pow-succ' 10 k

pub ten_pos : (k : ℕ) → 1 ≤ 10 ^ k
ten_pos zero = omega arith
ten_pos (suc k) = rw (ten k) (let h : 1 ≤ 10 ^ k = ten_pos k in omega arith)

pub ten_up : (i d : ℕ) → 10 ^ i ≤ 10 ^ (d + i)
ten_up i zero = subst (λ (n : ℕ). 10 ^ i ≤ 10 ^ n) (let e : i ≡ zero + i = omega arith in e) (omega arith)
ten_up i (suc d) =
    let e : suc (d + i) ≡ suc d + i = omega arith in
    let h : 10 ^ i ≤ 10 ^ (d + i) = ten_up i d in
    subst (λ (n : ℕ). 10 ^ i ≤ 10 ^ n) e (rw (ten (d + i)) (omega arith))

low_step : (n d p v : ℕ) → (n * 10 + d) * p ≤ v → n * (10 * p) ≤ v
low_step n d p v h =
    let e : n * 10 * p ≡ n * (10 * p) = mul_assoc n 10 p in
    let g : n * 10 * p ≤ (n * 10 + d) * p = mul-le-mul_right p (omega arith) in
    omega arith

high_step : (n d p v : ℕ) → d < 10 → v + 1 ≤ (n * 10 + d + 1) * p → v + 1 ≤ (n + 1) * (10 * p)
high_step n d p v small h =
    let e : (n + 1) * 10 * p ≡ (n + 1) * (10 * p) = mul_assoc (n + 1) 10 p in
    let g : (n * 10 + d + 1) * p ≤ (n + 1) * 10 * p = mul-le-mul_right p (omega arith) in
    omega arith

after_low : (n : ℕ) (ys : List ℕ) → n * 10 ^ length ys ≤ digits_value_after 10 n ys
after_low n [] = omega arith
after_low n (c ∷ ys) = rw (ten (length ys)) (low_step n (digit_value c) (10 ^ length ys) _ (after_low (n * 10 + digit_value c) ys))

after_high : (n : ℕ) (ys : List ℕ) → AllDigits 10 ys → digits_value_after 10 n ys + 1 ≤ (n + 1) * 10 ^ length ys
after_high n [] h = omega arith
after_high n (c ∷ ys) h = rw (ten (length ys)) (high_step n (digit_value c) (10 ^ length ys) _ h.0 (after_high (n * 10 + digit_value c) ys h.1))

-- a number that begins with the digits of v and has as many more as e
pub prefix_bounds : (y v : ℕ) (e : List ℕ) → y < 2 ^ 64 → v < 2 ^ 64 → decimal v ++ e ≡ decimal y → (v * 10 ^ length e ≤ y) × (y + 1 ≤ (v + 1) * 10 ^ length e)
prefix_bounds y v e hy hv p =
    let one : y ≡ digits_value_after 10 v e =
    sym (decimal_is_IsNumeral y hy).1 ∙ ap (digits_value 10) (sym p) ∙ after-append 0 (decimal v) e ∙ ap (λ (n : ℕ). digits_value_after 10 n e) (decimal_is_IsNumeral v hv).1 in
    let digits : AllDigits 10 e = AllDigits-back (decimal v) e (subst (AllDigits 10) (sym p) (decimal_is_IsNumeral y hy).0.1) in
    let low : v * 10 ^ length e ≤ digits_value_after 10 v e = after_low v e in
    let high : digits_value_after 10 v e + 1 ≤ (v + 1) * 10 ^ length e = after_high v e digits in
    (omega arith, omega arith)

-- every number between the bounds begins so
pub prefix_exists : (k y v : ℕ) → 0 < v → v * 10 ^ k ≤ y → y + 1 ≤ (v + 1) * 10 ^ k → y < 2 ^ 64 → (e : List ℕ) × (decimal v ++ e ≡ decimal y)
prefix_exists zero y v pos low high fits = ([], append-nil (decimal v) ∙ ap decimal (omega arith))
prefix_exists (suc k) y v pos low high fits =
    let p = 10 ^ k in
    let a : v * 10 ^ suc k ≡ 10 * (v * p) = ap (λ (n : ℕ). v * n) (ten k) ∙ sym (mul_assoc v 10 p) ∙ swap_ten v p in
    let b : (v + 1) * 10 ^ suc k ≡ 10 * ((v + 1) * p) = ap (λ (n : ℕ). (v + 1) * n) (ten k) ∙ sym (mul_assoc (v + 1) 10 p) ∙ swap_ten (v + 1) p in
    let one : 1 ≤ v * p = one-le-mul (omega arith) (ten_pos k) in
    let less = prefix_exists k (y / 10) v pos (omega arith) (omega arith) (omega arith) in
    (less.0 ++ (48 + y % 10) ∷ [], sym (append_assoc (decimal v) less.0 _) ∙ ap (λ (l : List ℕ). l ++ (48 + y % 10) ∷ []) less.1 ∙ sym (decimal_step y (omega arith) fits))
  where
    swap_ten : (m q : ℕ) → m * 10 * q ≡ 10 * (m * q)
    swap_ten m q = ap (λ (n : ℕ). n * q) (omega arith) ∙ mul_assoc 10 m q

-- 0 stands alone
pub zero_alone : (y : ℕ) (e : List ℕ) → y < 2 ^ 64 → decimal 0 ++ e ≡ decimal y → y ≡ 0
zero_alone y e fits p =
    elim (cases_lt 0 y) [
      | inl pos ↦
          let first : 48 < get_or (decimal y) 0 0 = first_decimal y pos fits in
          let is : get_or (decimal 0 ++ e) 0 0 ≡ 48 = ap (λ (l : List ℕ). get_or (l ++ e) 0 0) (decimal_digit 0 (omega arith)) in
          absurd (omega (arith, is, ap (λ (l : List ℕ). get_or l 0 0) p))
      | inr none ↦ omega arith
    ]

-- ---- which digits begin a number of a range
pub begins_zero : (low high : ℕ) → high < 2 ^ 16 → Begins (IsNumber low high) (decimal 0) → low ≡ 0
begins_zero low high fits b =
    let n = b.1.1 in
    let y : b.1.0 < 2 ^ 64 = omega (arith, n.most) in
    let z : b.1.0 ≡ 0 = zero_alone b.1.0 b.0 y n.digits in
    omega (arith, n.least)

pub zero_begins : (low high : ℕ) → low ≡ 0 → Begins (IsNumber low high) (decimal 0)
zero_begins low high e = ([], (0, record { digits = append-nil (decimal 0); least = omega arith; most = omega arith }))

pub begins_at : (low high v k : ℕ) → low ≤ high → high < 2 ^ 16 → 0 < v → v * 10 ^ k ≤ high → low + 1 ≤ (v + 1) * 10 ^ k → Begins (IsNumber low high) (decimal v)
begins_at low high v k range fits pos least greatest =
    let p : 1 ≤ 10 ^ k = ten_pos k in
    let e : (v + 1) * 10 ^ k ≡ v * 10 ^ k + 10 ^ k = next_multiple v (10 ^ k) in
    let y = max low (v * 10 ^ k) in
    let f = prefix_exists k y v pos (omega arith) (omega arith) (omega arith) in
    (f.0, (y, record { digits = f.1; least = omega arith; most = omega arith }))
  where
    next_multiple : (m q : ℕ) → (m + 1) * q ≡ m * q + q
    next_multiple m q = omega arith

pub begins_none : (low high v j : ℕ) → high < 2 ^ 16 → v < 2 ^ 64 → ((i : ℕ) → i < j → (v + 1) * 10 ^ i ≤ low) → high < v * 10 ^ j → ¬ Begins (IsNumber low high) (decimal v)
begins_none low high v j fits small below past b =
    let n = b.1.1 in
    let y = b.1.0 in
    let k = length b.0 in
    let range : (v * 10 ^ k ≤ y) × (y + 1 ≤ (v + 1) * 10 ^ k) = prefix_bounds y v b.0 (omega (arith, n.most)) small n.digits in
    elim (cases_lt k j) [
      | inl less ↦ absurd (omega (arith, below k less, n.least, range.1))
      | inr more ↦
          let up : 10 ^ j ≤ 10 ^ (k - j + j) = ten_up j (k - j) in
          let same : k - j + j ≡ k = omega arith in
          let power : 10 ^ j ≤ 10 ^ k = subst (λ (i : ℕ). 10 ^ j ≤ 10 ^ i) same up in
          let times : v * 10 ^ j ≤ v * 10 ^ k = mul-le-mul_left v power in
          absurd (omega (arith, n.most, range.0))
    ]

-- the least and the greatest number with the digits of one and some more, after no fewer were enough to reach a bound
pub record Tried (low value least greatest : ℕ) : Type 0 where
  pub more : ℕ
  pub is_least : least ≡ value * 10 ^ more
  pub is_greatest : greatest + 1 ≡ (value + 1) * 10 ^ more
  pub pos : 0 < least
  pub near : greatest + 1 ≤ 2 * least
  pub below : (i : ℕ) → i < more → (value + 1) * 10 ^ i ≤ low

ten_times : (m k : ℕ) → m * 10 ^ suc k ≡ m * 10 ^ k * 10
ten_times m k = ap (λ (n : ℕ). m * n) (ten k ∙ swap (10 ^ k)) ∙ sym (mul_assoc m (10 ^ k) 10)
  where
    swap : (p : ℕ) → 10 * p ≡ p * 10
    swap p = omega arith

pub tried_more : (low value least greatest : ℕ) → greatest < low → Tried low value least greatest → Tried low value (least * 10) (greatest * 10 + 9)
tried_more low value least greatest less t = record {
  more = suc t.more;
  is_least = ap (λ (n : ℕ). n * 10) t.is_least ∙ sym (ten_times value t.more);
  is_greatest = omega (arith, t.is_greatest, ten_times (value + 1) t.more);
  pos = omega (arith, t.pos);
  near = omega (arith, t.near);
  below = λ i h. elim (cases_lt i t.more) [ inl before ↦ t.below i before | inr last ↦ let e : t.more ≡ i = omega arith in subst (λ (n : ℕ). (value + 1) * 10 ^ n ≤ low) e (omega (arith, t.is_greatest)) ];
}

pub tried_reaches : (low high value least greatest : ℕ) → low ≤ high → high < 2 ^ 16 → 0 < value → least ≤ high → low ≤ greatest → Tried low value least greatest → Begins (IsNumber low high) (decimal value)
tried_reaches low high value least greatest range fits pos a b t = begins_at low high value t.more range fits pos (omega (arith, t.is_least)) (omega (arith, t.is_greatest))

pub tried_fails : (low high value least greatest : ℕ) → high < 2 ^ 16 → value < 2 ^ 64 → high < least → Tried low value least greatest → ¬ Begins (IsNumber low high) (decimal value)
tried_fails low high value least greatest fits small past t = begins_none low high value t.more fits small t.below (omega (arith, t.is_least))

-- ---- one digit more
pub begins_within : (low high v : ℕ) → high < 2 ^ 16 → v < 2 ^ 64 → Begins (IsNumber low high) (decimal v) → v ≤ high
begins_within low high v fits small b =
    let n = b.1.1 in
    let y = b.1.0 in
    let range : (v * 10 ^ length b.0 ≤ y) × (y + 1 ≤ (v + 1) * 10 ^ length b.0) = prefix_bounds y v b.0 (omega (arith, n.most)) small n.digits in
    let least : v * 1 ≤ v * 10 ^ length b.0 = mul-le-mul_left v (ten_pos (length b.0)) in
    omega (arith, n.most, range.0)

pub not_digit : (low high c : ℕ) (d : List ℕ) → high < 2 ^ 16 → ¬ IsInRange 48 57 c → ¬ Begins (IsNumber low high) (d ++ c ∷ [])
not_digit low high c d fits other b =
    let n = b.1.1 in
    let y = b.1.0 in
    let small : y < 2 ^ 64 = omega (arith, n.most) in
    let long : length d < length (decimal y) = omega (arith, ap length n.digits, length-append (d ++ c ∷ []) b.0, length-append d (c ∷ [])) in
    let there : get_or (decimal y) (length d) 0 ≡ c =
    ap (λ (l : List ℕ). get_or l (length d) 0) (sym n.digits ∙ append_assoc d (c ∷ []) b.0) ∙ at_seam d c b.0 in
    other (subst (IsInRange 48 57) there (digit_at (decimal y) (length d) (decimal_is_IsNumeral y small).0.1 long))
  where
    at_seam : (d : List ℕ) (c : ℕ) (r : List ℕ) → get_or (d ++ (c ∷ r)) (length d) 0 ≡ c
    at_seam d c r = let e : length d ≡ length d + 0 = omega arith in ap (λ (n : ℕ). get_or (d ++ (c ∷ r)) n 0) e ∙ get_or-append-add d (c ∷ r) 0 0

pub not_after_zero : (low high c : ℕ) → high < 2 ^ 16 → ¬ Begins (IsNumber low high) (decimal 0 ++ c ∷ [])
not_after_zero low high c fits b =
    let n = b.1.1 in
    let y = b.1.0 in
    let e = c ∷ b.0 in
    let p : decimal 0 ++ e ≡ decimal y = sym (append_assoc (decimal 0) (c ∷ []) b.0) ∙ n.digits in
    let z : y ≡ 0 = zero_alone y e (omega (arith, n.most)) p in
    let l : length (decimal 0) + length e ≡ length (decimal 0) = sym (length-append (decimal 0) e) ∙ ap length (p ∙ ap decimal z) in
    absurd (omega arith)

pub first_digit : (c : ℕ) → IsInRange 48 57 c → decimal (c - 48) ≡ c ∷ []
first_digit c h = decimal_digit (c - 48) (omega arith) ∙ ap (λ (n : ℕ). n ∷ []) (omega arith)

pub next_digit : (v c : ℕ) → IsInRange 48 57 c → 0 < v → v < 2 ^ 20 → decimal (v * 10 + (c - 48)) ≡ decimal v ++ c ∷ []
next_digit v c h pos fits =
    let prefix : (v * 10 + (c - 48)) / 10 ≡ v = omega arith in
    let last : 48 + (v * 10 + (c - 48)) % 10 ≡ c = omega arith in
    decimal_step (v * 10 + (c - 48)) (omega arith) (omega arith) ∙ (λ i. decimal (prefix i) ++ last i ∷ [])
