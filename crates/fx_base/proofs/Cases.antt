-- What tests, choices, options, orders and sums come to, by their cases.
use Rattle.std.proofs.Common.{◌≡◌, ℕ, ◌+◌, Bool, true, false, cond, not, ◌&&◌, ◌||◌, Option, Some, None, is_some, unwrap_or, T, refl, sym, arith}
use Rattle.std.specs.declared.cmp.Ordering.{Ordering}
use Rattle.std.specs.declared.cmp.Ordering.TheVariants.{Less, Equal, Greater}
use Rattle.std.specs.Ordering.{is_lt, is_eq}

-- ---- tests
pub never : (b : Bool) → (b && false) ≡ false
never true = refl
never false = refl

pub always : (b : Bool) → (b && true) ≡ b
always true = refl
always false = refl

pub none_else : (b : Bool) → (b || false) ≡ b
none_else true = refl
none_else false = refl

pub surely : (b : Bool) → (b || true) ≡ true
surely true = refl
surely false = refl

pub swapped : (a b c : Bool) → (a || (b || c)) ≡ (b || (a || c))
swapped true true c = refl
swapped true false c = refl
swapped false b c = refl

pub opposite : (b : Bool) → not b ≡ true → b ≡ false
opposite true e = cc
opposite false e = refl

pub true_false : {A : Type 0} → true ≡ false → A
true_false e = cc

-- ---- both of two tests
pub first : (a b : Bool) → T (a && b) → T a
first true b p = tt
first false b p = p

pub second : (a b : Bool) → T (a && b) → T b
second true b p = p
second false b p = absurd p

pub both : (a b : Bool) → T a → T b → T (a && b)
both true b p q = q
both false b p q = p

pub first_true : (a b : Bool) → (a && b) ≡ true → a ≡ true
first_true true b e = refl
first_true false b e = cc

pub second_true : (a b : Bool) → (a && b) ≡ true → b ≡ true
second_true true b e = e
second_true false b e = cc

pub both_true : (a b : Bool) → a ≡ true → b ≡ true → (a && b) ≡ true
both_true true b p q = q
both_true false b p q = cc

-- ---- choices
pub hidden : {A : Type 0} (b : Bool) (x y z : A) → cond b x (cond b y z) ≡ cond b x z
hidden true x y z = refl
hidden false x y z = refl

-- a test of a pair by its parts, where the second part's value is the first's already
pub shown : (a b : Bool) (x : Bool) → cond b false x ≡ x → cond (a && b) true x ≡ cond b a x
shown true true x h = refl
shown false true x h = sym h
shown true false x h = refl
shown false false x h = refl

pub gone_both : (a b : Bool) (x : Bool) → cond b a x ≡ x → cond (a && b) false x ≡ cond b false x
gone_both true true x h = refl
gone_both false true x h = sym h
gone_both true false x h = refl
gone_both false false x h = refl

-- ---- what may be there
pub absent_value : {A : Type 0} (o : Option A) → is_some o ≡ false → o ≡ None
absent_value None h = refl
absent_value (Some x) h = cc

pub unit_same : (x y : Option (Unit {0})) → is_some x ≡ is_some y → x ≡ y
unit_same None None h = refl
unit_same None (Some y) h = cc
unit_same (Some x) None h = cc
unit_same (Some x) (Some y) h = refl

pub none_some : {A B : Type 0} (x : A) → None ≡ Some x → B
none_some x h = cc

pub same_some : {A : Type 0} (x y : A) → Some x ≡ Some y → x ≡ y
same_some x y e = cc

-- a number that may be there, or 0
pub either : (b : Bool) (x y : Option ℕ) → unwrap_or (cond b x y) 0 ≡ cond b (unwrap_or x 0) (unwrap_or y 0)
either true x y = refl
either false x y = refl

-- ---- orders
pub less : (r : Ordering) → T (is_lt r) → r ≡ Less
less Less p = refl
less Equal p = absurd p
less Greater p = absurd p

pub equal : (r : Ordering) → is_eq r ≡ true → r ≡ Equal
equal Less h = cc
equal Equal h = refl
equal Greater h = cc

-- ---- sums
pub none_more : (n : ℕ) → n ≡ 0 + n
none_more n = omega arith

pub moved : (a b n : ℕ) → a + (b + n) ≡ b + (a + n)
moved a b n = omega arith
