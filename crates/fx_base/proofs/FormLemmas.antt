-- Forms put together: a number alone, an optional number behind a mark, a number and what follows it.
use Rattle.std.proofs.Common.{◌≡◌, ◌<◌, ◌≤◌, ◌+◌, ◌-◌, ◌^◌, ◌⊎◌, ℕ, zero, suc, min, List, [], ◌∷◌, ◌++◌, length, take, drop, get_or, refl, sym, ap, subst, ◌∙◌, arith, inl, inr, append_assoc, length-append, length-drop, take-append-drop}
use Rattle.std.specs.Fmt.{decimal}
use Rattle.std.specs.Int.{IsInRange}
use Rattle.std.proofs.lemmas.Fmt.{decimal_injective, decimal_is_IsNumeral}
use Rattle.std.proofs.lemmas.List.{append-nil, take_all, take_at, drop_at, take-take, take-append-le, drop-append-le, drop-take, length-take-le, get_or-take, get_or_append_left, get_or-append-add, drop_more, take_rest}
use Rattle.std.proofs.lemmas.Str.Parse.{digit_at}
use Rattle.std.proofs.lemmas.Bool.{cases_lt}
use Rattle.std.proofs.Math.Seq.{take-add}
use Rattle.fx_base.specs.Forms.{Begins, IsIn, GoesTo, Means, Leaves, IsNumber, IsOptional, NumberThen}

-- a text of the form begins one
begins_whole : {A : Type 0} (Form : List ℕ → A → Type 0) (text : List ℕ) (value : A) → Form text value → Begins Form (take (length text) text)
begins_whole Form text value h = ([], (value, subst (λ (l : List ℕ). Form l value) (sym (append-nil (take (length text) text) ∙ take_all (length text) text (omega arith))) h))

pub leaves_longer : {A : Type 0} (Form : List ℕ → A → Type 0) (text : List ℕ) (n : ℕ) → GoesTo Form text n → n < length text → Leaves Form text n
leaves_longer Form text n g less = record {
  none = λ value h. absurd (let past : length text ≤ n = g.furthest (length text) (omega arith) (begins_whole Form text value h) in omega arith);
  goes = g;
}

pub leaves_here : {A : Type 0} (Form : List ℕ → A → Type 0) (text : List ℕ) (n : ℕ) → GoesTo Form text n → ¬ IsIn Form (take n text) → Leaves Form text n
leaves_here Form text n g out = record {
  none = λ value h.
      let past : length text ≤ n = g.furthest (length text) (omega arith) (begins_whole Form text value h) in
      out (value, subst (λ (l : List ℕ). Form l value) (sym (take_all n text past)) h);
  goes = g;
}

module _ (low high : ℕ) (small : high < 2 ^ 16) where
  one_value : (x y : ℕ) (prefix text : List ℕ) → prefix ≡ text → IsNumber low high prefix x → IsNumber low high text y → y ≡ x
  one_value x y prefix text e a b = decimal_injective y x (omega (arith, b.most)) (omega (arith, a.most)) (sym b.digits ∙ sym e ∙ a.digits)

  pub means_number : (text : List ℕ) (n x : ℕ) → length text ≤ n → IsNumber low high (take n text) x → Means (IsNumber low high) text x
  means_number text n x all a =
      let e : take n text ≡ text = take_all n text all in
      record { is = subst (λ (l : List ℕ). IsNumber low high l x) e a; only = λ y b. one_value x y (take n text) text e a b }

-- ---- an optional number behind a mark
module _ (absent mark low high : ℕ) where
  pub optional_value : (rest : List ℕ) (x : ℕ) → Means (IsNumber low high) rest x → Means (IsOptional absent mark low high) (mark ∷ rest) x
  optional_value rest x m = record {
    is = inr (rest, refl, m.is);
    only = λ other h. elim h [ inl none ↦ cc (none.0) | inr some ↦ m.only other (let e : some.0 ≡ rest = cc (some.1) in subst (λ (l : List ℕ). IsNumber low high l other) e some.2) ];
  }

  pub optional_fault : (rest : List ℕ) (n : ℕ) → Leaves (IsNumber low high) rest n → Leaves (IsOptional absent mark low high) (mark ∷ rest) (n + 1)
  optional_fault rest n m = record {
    none = λ value h. elim h [ inl none ↦ cc (none.0) | inr some ↦ m.none value (let e : some.0 ≡ rest = cc (some.1) in subst (λ (l : List ℕ). IsNumber low high l value) e some.2) ];
    goes = record {
      within = let w : n ≤ length rest = m.goes.within in omega arith;
      begins =
          let b = m.goes.begins in
          let e : n + 1 ≡ suc n = omega arith in
          (b.0, (b.1.0, subst (λ (i : ℕ). IsOptional absent mark low high (take i (mark ∷ rest) ++ b.0) b.1.0) (sym e) (inr (take n rest ++ b.0, refl, b.1.1))));
      furthest = further;
    };
  }
    where
      further : (i : ℕ) → i ≤ length (mark ∷ rest) → Begins (IsOptional absent mark low high) (take i (mark ∷ rest)) → i ≤ n + 1
      further zero less b = omega arith
      further (suc i) less b = elim b.1.1 [
        | inl none ↦ cc (none.0)
        | inr some ↦
            let e : some.0 ≡ take i rest ++ b.0 = cc (some.1) in
            let inside : i ≤ n = m.goes.furthest i (omega arith) (b.0, (b.1.0, subst (λ (l : List ℕ). IsNumber low high l b.1.0) e some.2)) in
            omega arith
      ]

  pub optional_other : (c : ℕ) (rest : List ℕ) → (c ≡ mark → ⊥) → Leaves (IsOptional absent mark low high) (c ∷ rest) 0
  optional_other c rest other = record {
    none = λ value h. elim h [ inl none ↦ cc (none.0) | inr some ↦ other (cc (some.1)) ];
    goes = record {
      within = omega arith;
      begins = ([], (absent, inl (refl, refl)));
      furthest = further;
    };
  }
    where
      further : (i : ℕ) → i ≤ length (c ∷ rest) → Begins (IsOptional absent mark low high) (take i (c ∷ rest)) → i ≤ 0
      further zero less b = omega arith
      further (suc i) less b = elim b.1.1 [ inl none ↦ cc (none.0) | inr some ↦ absurd (other (cc (some.1))) ]

-- ---- a number and what follows it
-- nothing that begins with a digit
abbrev pub IsStop : List ℕ → Type 0
IsStop rest = ¬ IsInRange 48 57 (get_or rest 0 0)

-- what follows a number, by its value, which begins with no digit and has a text for each number
pub record CanFollow {A : Type 0} (low high : ℕ) (After : ℕ → List ℕ → A → Type 0) : Type 0 where
  pub stops : (x : ℕ) (rest : List ℕ) (value : A) → After x rest value → IsStop rest
  pub some : (x : ℕ) → low ≤ x → x ≤ high → (rest : List ℕ) × ((value : A) × After x rest value)

at_end : (d r : List ℕ) → get_or (d ++ r) (length d) 0 ≡ get_or r 0 0
at_end d r = let e : length d ≡ length d + 0 = omega arith in ap (λ (n : ℕ). get_or (d ++ r) n 0) e ∙ get_or-append-add d r 0 0

same_byte : (text w d r : List ℕ) (k m : ℕ) → k ≡ length d → k < m → m ≤ length text → take m text ++ w ≡ d ++ r → get_or text k 0 ≡ get_or r 0 0
same_byte text w d r k m e less fits p =
    let long : k < length (take m text) = omega (arith, length-take-le m text fits) in
    sym (get_or-take m text k 0 less) ∙ sym (get_or_append_left (take m text) w 0 k long) ∙ ap (λ (l : List ℕ). get_or l k 0) p ∙ ap (λ (n : ℕ). get_or (d ++ r) n 0) e ∙ at_end d r

module _ (low high : ℕ) (small : high < 2 ^ 16) where
  -- the byte behind a number is no digit, so no longer number stands there
  no_shorter : (text w d r : List ℕ) (n m y : ℕ) → IsNumber low high d y → IsStop r → n ≤ m → m ≤ length text → take m text ++ w ≡ d ++ r → Begins (IsNumber low high) (take n text) → ¬ (length d < n)
  no_shorter text w d r n m y num stop below fits p b less =
      let k = length d in
      let z = b.1.0 in
      let more = b.1.1 in
      let short : z < 2 ^ 64 = omega (arith, more.most) in
      let taken : length (take n text) ≡ n = length-take-le n text (omega arith) in
      let long : k < length (decimal z) = omega (arith, ap length more.digits, length-append (take n text) b.0) in
      let inside : k < length (take n text) = omega arith in
      let same : get_or (decimal z) k 0 ≡ get_or r 0 0 =
      ap (λ (l : List ℕ). get_or l k 0) (sym more.digits) ∙ get_or_append_left (take n text) b.0 0 k inside ∙ get_or-take n text k 0 less
      ∙ same_byte text w d r k m refl (omega arith) fits p in
      stop (subst (IsInRange 48 57) same (digit_at (decimal z) k (decimal_is_IsNumeral z short).0.1 long))

  -- a prefix of a number and of the text
  shared_prefix : (text w d r : List ℕ) (t m y : ℕ) → IsNumber low high d y → m ≤ length text → take m text ++ w ≡ d ++ r → t ≤ m → t ≤ length d → Begins (IsNumber low high) (take t text)
  shared_prefix text w d r t m y num fits p a b =
      let long : t ≤ length (take m text) = omega (arith, length-take-le m text fits) in
      let e : take t text ≡ take t d = sym (take-take t m text a) ∙ sym (take-append-le t (take m text) w long) ∙ ap (take t) p ∙ take-append-le t d r b in
      (drop t d, (y, subst (λ (l : List ℕ). IsNumber low high l y) (sym (ap (λ (l : List ℕ). l ++ drop t d) e ∙ take-append-drop t d)) num))

  -- where more of the text goes on as a number and what may follow, the number ends where the text stops to go along numbers
  ends_there : (text w d r : List ℕ) (n m y : ℕ) → IsNumber low high d y → IsStop r → GoesTo (IsNumber low high) text n → (n < m) ⊎ (length d ≤ m) → n ≤ m → m ≤ length text → take m text ++ w ≡ d ++ r → length d ≡ n
  ends_there text w d r n m y num stop g past below fits p =
      let t = min m (length d) in
      let most : t ≤ n = g.furthest t (omega arith) (shared_prefix text w d r t m y num fits p (omega arith) (omega arith)) in
      let least : ¬ (length d < n) = no_shorter text w d r n m y num stop below fits p g.begins in
      elim past [ inl more ↦ omega arith | inr inside ↦ omega arith ]

  split : (text w d r : List ℕ) (n m : ℕ) → length d ≡ n → n ≤ m → m ≤ length text → take m text ++ w ≡ d ++ r → (d ≡ take n text) × (r ≡ drop n (take m text) ++ w)
  split text w d r n m long below fits p =
      let inside : n ≤ length (take m text) = omega (arith, length-take-le m text fits) in (
        sym (take_at d r n long) ∙ ap (take n) (sym p) ∙ take-append-le n (take m text) w inside ∙ take-take n m text below,
        sym (drop_at d r n long) ∙ ap (drop n) (sym p) ∙ drop-append-le n (take m text) w inside,
      )

  -- the same of the whole text
  split_whole : (text d r : List ℕ) (n y : ℕ) → IsNumber low high d y → IsStop r → GoesTo (IsNumber low high) text n → text ≡ d ++ r → (d ≡ take n text) × (r ≡ drop n text)
  split_whole text d r n y num stop g p =
      let all : take (length text) text ++ [] ≡ d ++ r = append-nil _ ∙ take_all (length text) text (omega arith) ∙ p in
      let inside : length d ≤ length text = omega (arith, ap length p, length-append d r) in
      let long : length d ≡ n = ends_there text [] d r n (length text) y num stop g (inr inside) g.within (omega arith) all in
      let s = split text [] d r n (length text) long g.within (omega arith) all in
      (s.0, s.1 ∙ append-nil _ ∙ ap (drop n) (take_all (length text) text (omega arith)))

  module _ {A : Type 0} (After : ℕ → List ℕ → A → Type 0) (can : CanFollow low high After) where
    stop_of : (text : List ℕ) (value : A) (h : NumberThen low high After text value) → IsStop h.rest
    stop_of text value h = can.stops h.number h.rest value h.after

    -- what follows, where the number was read
    follows : (text : List ℕ) (n x : ℕ) (value : A) → IsNumber low high (take n text) x → GoesTo (IsNumber low high) text n → NumberThen low high After text value → After x (drop n text) value
    follows text n x value a g h =
        let s = split_whole text h.prefix h.rest n h.number h.is (stop_of text value h) g h.whole in
        let same : h.number ≡ x = one_value low high small x h.number (take n text) h.prefix (sym s.0) a h.is in
        subst (λ (l : List ℕ). After x l value) s.1 (subst (λ (y : ℕ). After y h.rest value) same h.after)

    further : (text : List ℕ) (n x : ℕ) → IsNumber low high (take n text) x → GoesTo (IsNumber low high) text n → (m : ℕ) → m ≤ length text → n < m → Begins (NumberThen low high After) (take m text) → Begins (After x) (take (m - n) (drop n text))
    further text n x a g m fits past b =
        let value = b.1.0 in
        let h = b.1.1 in
        let stop : IsStop h.rest = stop_of (take m text ++ b.0) value h in
        let long : length h.prefix ≡ n = ends_there text b.0 h.prefix h.rest n m h.number h.is stop g (inl past) (omega arith) fits h.whole in
        let s = split text b.0 h.prefix h.rest n m long (omega arith) fits h.whole in
        let same : h.number ≡ x = one_value low high small x h.number (take n text) h.prefix (sym s.0) a h.is in
        let sum : n + (m - n) ≡ m = omega arith in
        let rest : drop n (take m text) ≡ take (m - n) (drop n text) = ap (λ (i : ℕ). drop n (take i text)) (sym sum) ∙ drop-take n (m - n) text in
        let left : h.rest ≡ take (m - n) (drop n text) ++ b.0 = s.1 ∙ ap (λ (l : List ℕ). l ++ b.0) rest in
        (b.0, (value, subst (λ (l : List ℕ). After x l value) left (subst (λ (y : ℕ). After y h.rest value) same h.after)))

    pub then_value : (text : List ℕ) (n x : ℕ) (value : A) → IsNumber low high (take n text) x → GoesTo (IsNumber low high) text n → Means (After x) (drop n text) value → Means (NumberThen low high After) text value
    then_value text n x value a g m = record {
      is = record { number = x; prefix = take n text; rest = drop n text; whole = sym (take-append-drop n text); is = a; after = m.is };
      only = λ other h. m.only other (follows text n x other a g h);
    }

    pub then_fault : (text : List ℕ) (n x j : ℕ) → IsNumber low high (take n text) x → GoesTo (IsNumber low high) text n → Leaves (After x) (drop n text) j → Leaves (NumberThen low high After) text (n + j)
    then_fault text n x j a g m = record {
      none = λ value h. m.none value (follows text n x value a g h);
      goes = record {
        within = let w : j ≤ length (drop n text) = m.goes.within in omega (arith, length-drop n text, g.within);
        begins =
            let b = m.goes.begins in
            let whole : take (n + j) text ++ b.0 ≡ take n text ++ (take j (drop n text) ++ b.0) = ap (λ (l : List ℕ). l ++ b.0) (take-add n j text) ∙ append_assoc (take n text) (take j (drop n text)) b.0 in
            (b.0, (b.1.0, record { number = x; prefix = take n text; rest = take j (drop n text) ++ b.0; whole = whole; is = a; after = b.1.1 }));
        furthest = λ i fits b. elim (cases_lt n i) [
          | inl past ↦ let inside : i - n ≤ j = m.goes.furthest (i - n) (omega (arith, length-drop n text)) (further text n x a g i fits past b) in omega arith
          | inr before ↦ omega arith
        ];
      };
    }

    pub then_none : (text : List ℕ) (n : ℕ) → GoesTo (IsNumber low high) text n → ¬ IsIn (IsNumber low high) (take n text) → Leaves (NumberThen low high After) text n
    then_none text n g out = record {
      none = λ value h.
          let s = split_whole text h.prefix h.rest n h.number h.is (stop_of text value h) g h.whole in
          out (h.number, subst (λ (l : List ℕ). IsNumber low high l h.number) s.0 h.is);
      goes = record {
        within = g.within;
        begins =
            let b = g.begins in
            let f = can.some b.1.0 b.1.1.least b.1.1.most in
            (b.0 ++ f.0, (f.1.0, record { number = b.1.0; prefix = take n text ++ b.0; rest = f.0; whole = sym (append_assoc (take n text) b.0 f.0); is = b.1.1; after = f.1.1 }));
        furthest = λ i fits b. elim (cases_lt n i) [
          | inl past ↦
              let h = b.1.1 in
              let stop : IsStop h.rest = stop_of (take i text ++ b.0) b.1.0 h in
              let long : length h.prefix ≡ n = ends_there text b.0 h.prefix h.rest n i h.number h.is stop g (inl past) (omega arith) fits h.whole in
              let s = split text b.0 h.prefix h.rest n i long (omega arith) fits h.whole in
              absurd (out (h.number, subst (λ (l : List ℕ). IsNumber low high l h.number) s.0 h.is))
          | inr before ↦ before
        ];
      };
    }

-- ---- forms whose texts or values are those of another
-- what is read stays read where the texts are the same and the values match
pub record Alike {A B : Type 0} (F : List ℕ → A → Type 0) (G : List ℕ → B → Type 0) (f : A → B) (g : B → A) : Type 0 where
  pub to : (text : List ℕ) (a : A) → F text a → G text (f a)
  pub from : (text : List ℕ) (b : B) → G text b → F text (g b)
  pub back : (b : B) → f (g b) ≡ b

module _ {A B : Type 0} (F : List ℕ → A → Type 0) (G : List ℕ → B → Type 0) (f : A → B) (g : B → A) (alike : Alike F G f g) where
  pub means_alike : (text : List ℕ) (a : A) → Means F text a → Means G text (f a)
  means_alike text a m = record { is = alike.to text a m.is; only = λ b h. sym (alike.back b) ∙ ap f (m.only (g b) (alike.from text b h)) }

  pub leaves_alike : (text : List ℕ) (n : ℕ) → Leaves F text n → Leaves G text n
  leaves_alike text n m = record {
    none = λ b h. m.none (g b) (alike.from text b h);
    goes = record {
      within = m.goes.within;
      begins = let b = m.goes.begins in (b.0, (f b.1.0, alike.to (take n text ++ b.0) b.1.0 b.1.1));
      furthest = λ i fits b. m.goes.furthest i fits (b.0, (g b.1.0, alike.from (take i text ++ b.0) b.1.0 b.1.1));
    };
  }

pub optional_stops : (absent mark low high : ℕ) → ¬ IsInRange 48 57 mark → (rest : List ℕ) (value : ℕ) → IsOptional absent mark low high rest value → IsStop rest
optional_stops absent mark low high other rest value h digit = elim h [
  | inl none ↦ absurd (let e : get_or rest 0 0 ≡ 0 = ap (λ (l : List ℕ). get_or l 0 0) none.0 in omega arith)
  | inr some ↦ other (subst (IsInRange 48 57) (ap (λ (l : List ℕ). get_or l 0 0) some.1) digit)
]

-- ---- a text by its first byte
pub first_byte : (text : List ℕ) → 0 < length text → get_or text 0 0 ∷ drop 1 text ≡ text
first_byte text some = sym (drop_more text 0 0 some)

pub after_mark : (text : List ℕ) (mark : ℕ) → 0 < length text → get_or text 0 0 ≡ mark → mark ∷ take (length text - 1) (drop 1 text) ≡ text
after_mark text mark some e = (λ i. sym e i ∷ take_rest text 1 i) ∙ first_byte text some
