-- Texts of one length that are compared a word at a time, and names that are compared with the zero bytes past them.
use Rattle.std.proofs.Common.{◌≡◌, ℕ, zero, suc, ◌+◌, ◌*◌, ◌<◌, ◌≤◌, ◌≢◌, List, [], ◌∷◌, ◌++◌, length, length-append, length-drop, take, drop, get_or, get_or-drop, drop-cons, take-append-drop, take-take, take-add, take_all, replicate, Ordering, Less, Equal, Greater, Fits, w8, refl, sym, ap, ◌∙◌, subst, arith}
use Rattle.std.specs.Ordering.{nat_cmp, ordering_then, MatchOrdering}
use Rattle.std.specs.Cmp.{ranks, nat_cmp_is}
use Rattle.std.specs.Cmp.Lexicographic.{slice_cmp}
use Rattle.std.specs.Slice.Scan.{big_endian}
use Rattle.std.proofs.lemmas.List.{length-replicate}
use Rattle.fx_base.specs.Padded.{IsPadded}

abbrev Bytes : List ℕ → Type 0
Bytes xs = (k : ℕ) → Fits w8 (get_or xs k 0)

-- ---- bytes as numbers

-- x and y are the first n bytes as numbers: where they differ they order the texts
record Told (xs ys : List ℕ) (n x y : ℕ) : Type 0 where
  pub apart : (x ≢ y) → slice_cmp nat_cmp xs ys ≡ nat_cmp x y
  pub alike : x ≡ y → take n xs ≡ take n ys

rises : (n a b : ℕ) (us vs : List ℕ) → n ≤ length us → n ≤ length vs → Bytes us → a < b → big_endian a (take n us) < big_endian b (take n vs)
rises zero a b us vs p q h l = l
rises (suc n) a b [] vs p q h l = absurd (omega arith)
rises (suc n) a b (u ∷ us) [] p q h l = absurd (omega arith)
rises (suc n) a b (u ∷ us) (v ∷ vs) p q h l =
    let small : u < 256 = (h 0).fits in
    rises n (a * 256 + u) (b * 256 + v) us vs (omega arith) (omega arith) (λ k. h (suc k)) (omega arith)

told : (n a : ℕ) (us vs : List ℕ) → n ≤ length us → n ≤ length vs → Bytes us → Bytes vs → Told us vs n (big_endian a (take n us)) (big_endian a (take n vs))
told zero a us vs p q g h = record { apart = λ f. absurd (f refl); alike = λ _. refl }
told (suc n) a [] vs p q g h = absurd (omega arith)
told (suc n) a (u ∷ us) [] p q g h = absurd (omega arith)
told (suc n) a (u ∷ us) (v ∷ vs) p q g h = by (told n (a * 256 + u) us vs (omega arith) (omega arith) (λ k. g (suc k)) (λ k. h (suc k))) (nat_cmp u v) refl (ranks u v)
  where
    by : Told us vs n (big_endian (a * 256 + u) (take n us)) (big_endian (a * 256 + u) (take n vs))
        → (r : Ordering) → nat_cmp u v ≡ r → MatchOrdering r (u < v) (u ≡ v) (v < u) → Told (u ∷ us) (v ∷ vs) (suc n) (big_endian (a * 256 + u) (take n us)) (big_endian (a * 256 + v) (take n vs))
    by rest Less e l =
        let under : u < v = l in
        let t = rises n (a * 256 + u) (a * 256 + v) us vs (omega arith) (omega arith) (λ k. g (suc k)) (omega arith) in
        record { apart = λ _. ap (λ r. ordering_then r (slice_cmp nat_cmp us vs)) e ∙ nat_cmp_is _ _ Less t; alike = λ s. absurd (omega arith) }
    by rest Greater e l =
        let over : v < u = l in
        let t = rises n (a * 256 + v) (a * 256 + u) vs us (omega arith) (omega arith) (λ k. h (suc k)) (omega arith) in
        record { apart = λ _. ap (λ r. ordering_then r (slice_cmp nat_cmp us vs)) e ∙ nat_cmp_is _ _ Greater t; alike = λ s. absurd (omega arith) }
    by rest Equal e l =
        let level : u ≡ v = l in
        let t = subst (λ z. Told us vs n (big_endian (a * 256 + u) (take n us)) (big_endian (a * 256 + z) (take n vs))) level rest in
        record { apart = λ f. ap (λ r. ordering_then r (slice_cmp nat_cmp us vs)) e ∙ t.apart f; alike = λ s i. level i ∷ t.alike s i }

-- ---- a word of a text

-- n bytes from i + k on, as they are read
abbrev reads : List ℕ → ℕ → ℕ → ℕ → List ℕ
reads xs i k zero = []
reads xs i k (suc n) = get_or xs (i + k) 0 ∷ reads xs i (suc k) n

read_out : (n : ℕ) (xs : List ℕ) (i k : ℕ) → i + k + n ≤ length xs → take n (drop (i + k) xs) ≡ reads xs i k n
read_out zero xs i k le = refl
read_out (suc n) xs i k le =
    let next : suc (i + k) ≡ i + suc k = omega arith in
    ap (take (suc n)) (drop-cons xs (i + k) 0 (omega arith))
    ∙ ap (λ l. get_or xs (i + k) 0 ∷ l) (ap (λ m. take n (drop m xs)) next ∙ read_out n xs i (suc k) (omega arith))

pub eight_bytes : (xs : List ℕ) (i : ℕ) → i + 8 ≤ length xs
    → get_or xs i 0 * 72057594037927936 + get_or xs (i + 1) 0 * 281474976710656 + get_or xs (i + 2) 0 * 1099511627776 + get_or xs (i + 3) 0 * 4294967296
    + get_or xs (i + 4) 0 * 16777216 + get_or xs (i + 5) 0 * 65536 + get_or xs (i + 6) 0 * 256 + get_or xs (i + 7) 0 ≡ big_endian 0 (take 8 (drop i xs))
eight_bytes xs i le =
    let first : i ≡ i + 0 = omega arith in
    omega (arith, ap (λ k. get_or xs k 0) first) ∙ sym (ap (big_endian 0) (ap (λ m. take 8 (drop m xs)) first ∙ read_out 8 xs i 0 (omega arith)))

-- ---- what two texts share at the beginning

itself : (x : ℕ) → nat_cmp x x ≡ Equal
itself x = sym (nat_cmp_is x x Equal refl)

shared : (p us vs : List ℕ) → slice_cmp nat_cmp (p ++ us) (p ++ vs) ≡ slice_cmp nat_cmp us vs
shared [] us vs = refl
shared (x ∷ p) us vs = ap (λ r. ordering_then r (slice_cmp nat_cmp (p ++ us) (p ++ vs))) (itself x) ∙ shared p us vs

past : (i : ℕ) (xs ys : List ℕ) → take i xs ≡ take i ys → slice_cmp nat_cmp xs ys ≡ slice_cmp nat_cmp (drop i xs) (drop i ys)
past i xs ys e =
    (λ j. slice_cmp nat_cmp (sym (take-append-drop i xs) j) (sym (take-append-drop i ys) j))
    ∙ ap (λ p. slice_cmp nat_cmp (take i xs ++ drop i xs) (p ++ drop i ys)) (sym e) ∙ shared (take i xs) (drop i xs) (drop i ys)

-- fewer bytes are alike too
pub fewer : (i j : ℕ) (xs ys : List ℕ) → i ≤ j → take j xs ≡ take j ys → take i xs ≡ take i ys
fewer i j xs ys h e = sym (take-take i j xs h) ∙ ap (take i) e ∙ take-take i j ys h

level : (l : List ℕ) → slice_cmp nat_cmp l l ≡ Equal
level [] = refl
level (z ∷ l) = ap (λ r. ordering_then r (slice_cmp nat_cmp l l)) (itself z) ∙ level l

module _ (xs ys : List ℕ) (p : Bytes xs) (q : Bytes ys) (i : ℕ) (x y : ℕ) (a : x ≡ big_endian 0 (take 8 (drop i xs))) (b : y ≡ big_endian 0 (take 8 (drop i ys))) (e : take i xs ≡ take i ys) (h : i + 8 ≤ length xs) (k : i + 8 ≤ length ys) where
  at_word : Told (drop i xs) (drop i ys) 8 x y
  at_word =
      let t = told 8 0 (drop i xs) (drop i ys) (omega (arith, length-drop i xs)) (omega (arith, length-drop i ys))
      (λ m. subst (Fits w8) (sym (get_or-drop i xs m 0)) (p (i + m))) (λ m. subst (Fits w8) (sym (get_or-drop i ys m 0)) (q (i + m))) in
      subst (Told (drop i xs) (drop i ys) 8 x) (sym b) (subst (λ z. Told (drop i xs) (drop i ys) 8 z (big_endian 0 (take 8 (drop i ys)))) (sym a) t)

  -- the word decides where it differs
  pub word_decides : x ≢ y → nat_cmp x y ≡ slice_cmp nat_cmp xs ys
  word_decides f = sym (past i xs ys e ∙ at_word.apart f)

  -- and else eight bytes more are alike
  pub word_alike : x ≡ y → take (i + 8) xs ≡ take (i + 8) ys
  word_alike f = take-add i 8 xs ∙ (λ j. e j ++ at_word.alike f j) ∙ sym (take-add i 8 ys)

  -- a word that ends both texts decides alone
  pub last_word : (r : Ordering) → i + 8 ≡ length xs → i + 8 ≡ length ys → r ≡ nat_cmp x y → r ≡ slice_cmp nat_cmp xs ys
  last_word r m n c = by (nat_cmp x y) refl (ranks x y)
    where
      by : (o : Ordering) → nat_cmp x y ≡ o → MatchOrdering o (x < y) (x ≡ y) (y < x) → r ≡ slice_cmp nat_cmp xs ys
      by Less t l = let under : x < y = l in c ∙ word_decides (λ f. omega (arith, under, f))
      by Greater t l = let over : y < x = l in c ∙ word_decides (λ f. omega (arith, over, f))
      by Equal t l =
          let same = sym (take_all (i + 8) xs (omega (arith, m))) ∙ word_alike l ∙ take_all (i + 8) ys (omega (arith, n)) in
          c ∙ t ∙ sym (ap (slice_cmp nat_cmp xs) (sym same) ∙ level xs)

-- ---- zero bytes past a name

-- zero bytes come before whatever is as long
zeros_first : (a : ℕ) (zs : List ℕ) → length zs ≡ a → ordering_then (slice_cmp nat_cmp (replicate a 0) zs) Less ≡ Less
zeros_first zero [] e = refl
zeros_first zero (z ∷ zs) e = absurd (omega (arith, e))
zeros_first (suc a) [] e = absurd (omega (arith, e))
zeros_first (suc a) (z ∷ zs) e = by (zeros_first a zs (omega (arith, e))) (nat_cmp 0 z) (ranks 0 z)
  where
    by : ordering_then (slice_cmp nat_cmp (replicate a 0) zs) Less ≡ Less → (r : Ordering) → MatchOrdering r (0 < z) (0 ≡ z) (z < 0)
        → ordering_then (ordering_then r (slice_cmp nat_cmp (replicate a 0) zs)) Less ≡ Less
    by rest Less l = refl
    by rest Equal l = rest
    by rest Greater l = let m : z < 0 = l in absurd (omega (arith, m))

zeros_last : (a : ℕ) (zs : List ℕ) → length zs ≡ a → ordering_then (slice_cmp nat_cmp zs (replicate a 0)) Greater ≡ Greater
zeros_last zero [] e = refl
zeros_last zero (z ∷ zs) e = absurd (omega (arith, e))
zeros_last (suc a) [] e = absurd (omega (arith, e))
zeros_last (suc a) (z ∷ zs) e = by (zeros_last a zs (omega (arith, e))) (nat_cmp z 0) (ranks z 0)
  where
    by : ordering_then (slice_cmp nat_cmp zs (replicate a 0)) Greater ≡ Greater → (r : Ordering) → MatchOrdering r (z < 0) (z ≡ 0) (0 < z)
        → ordering_then (ordering_then r (slice_cmp nat_cmp zs (replicate a 0))) Greater ≡ Greater
    by rest Less l = let m : z < 0 = l in absurd (omega (arith, m))
    by rest Equal l = rest
    by rest Greater l = refl

-- both one longer
longer : (m n : ℕ) (r : Ordering) → MatchOrdering r (m < n) (m ≡ n) (n < m) → MatchOrdering r (suc m < suc n) (suc m ≡ suc n) (suc n < suc m)
longer m n Less h = let l : m < n = h in let t : suc m < suc n = omega (arith, l) in t
longer m n Equal h = let l : m ≡ n = h in let t : suc m ≡ suc n = omega (arith, l) in t
longer m n Greater h = let l : n < m = h in let t : suc n < suc m = omega (arith, l) in t

first_then : (r s k v : Ordering) → ordering_then s k ≡ v → ordering_then (ordering_then r s) k ≡ ordering_then r v
first_then Less s k v h = refl
first_then Equal s k v h = h
first_then Greater s k v h = refl

-- names with a and b zero bytes past them, which are as long together: these bytes decide, and behind them the lengths
filled_up : (p q : List ℕ) (a b : ℕ) → length p + a ≡ length q + b
    → ordering_then (slice_cmp nat_cmp (p ++ replicate a 0) (q ++ replicate b 0)) (nat_cmp (length p) (length q)) ≡ slice_cmp nat_cmp p q
filled_up [] [] a b e =
    let same : b ≡ a = omega (arith, e) in
    let both = ap (λ n. slice_cmp nat_cmp (replicate a 0) (replicate n 0)) same ∙ level (replicate a 0) in
    ap (λ r. ordering_then r (nat_cmp 0 0)) both ∙ sym (nat_cmp_is 0 0 Equal refl)
filled_up [] (y ∷ ys) a b e =
    let zs = (y ∷ ys) ++ replicate b 0 in
    let long : length zs ≡ a = omega (arith, e, length-append (y ∷ ys) (replicate {A = ℕ} b 0), length-replicate {A = ℕ} b 0) in
    let under : 0 < suc (length ys) = omega arith in
    ap (ordering_then (slice_cmp nat_cmp (replicate a 0) zs)) (sym (nat_cmp_is 0 (suc (length ys)) Less under)) ∙ zeros_first a zs long
filled_up (x ∷ xs) [] a b e =
    let zs = (x ∷ xs) ++ replicate a 0 in
    let long : length zs ≡ b = omega (arith, e, length-append (x ∷ xs) (replicate {A = ℕ} a 0), length-replicate {A = ℕ} a 0) in
    let over : 0 < suc (length xs) = omega arith in
    ap (ordering_then (slice_cmp nat_cmp zs (replicate b 0))) (sym (nat_cmp_is (suc (length xs)) 0 Greater over)) ∙ zeros_last b zs long
filled_up (x ∷ xs) (y ∷ ys) a b e =
    let m = length xs in
    let n = length ys in
    let behind = slice_cmp nat_cmp (xs ++ replicate a 0) (ys ++ replicate b 0) in
    let shorter : nat_cmp (suc m) (suc n) ≡ nat_cmp m n = sym (nat_cmp_is (suc m) (suc n) (nat_cmp m n) (longer m n (nat_cmp m n) (ranks m n))) in
    first_then (nat_cmp x y) behind (nat_cmp (suc m) (suc n)) (slice_cmp nat_cmp xs ys) (ap (ordering_then behind) shorter ∙ filled_up xs ys a b (omega (arith, e)))

pub order_filled : (n : ℕ) (xs ys : List ℕ) (len far : ℕ) → IsPadded n xs len → IsPadded n ys far
    → ordering_then (slice_cmp nat_cmp xs ys) (nat_cmp len far) ≡ slice_cmp nat_cmp (take len xs) (take far ys)
order_filled n xs ys len far i k =
    let p = take len xs in
    let q = take far ys in
    (λ j. ordering_then (slice_cmp nat_cmp (sym i.filled j) (sym k.filled j)) (nat_cmp (sym i.whole j) (sym k.whole j)))
    ∙ filled_up p q _ _ (omega (arith, i.whole, i.fits, k.whole, k.fits))
