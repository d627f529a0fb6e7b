-- How a number is read from the beginning of a text.
use Rattle.std.proofs.Common.{◌≡◌, ◌<◌, ◌≤◌, ◌+◌, ◌^◌, ℕ, List, [], ◌∷◌, ◌++◌, length, take, drop, get_or, Option, Some, None, Result, Ok, Err, IfOk, IfErr, IfSome, refl, sym, ap, subst, ◌∙◌, arith, inl, inr, append_assoc}
use Rattle.std.specs.Fmt.{decimal}
use Rattle.std.proofs.lemmas.Fmt.{decimal_nonempty, decimal_injective}
use Rattle.std.proofs.lemmas.List.{take_more, take-take, take-append-drop}
use Rattle.std.proofs.lemmas.Bool.{cases_lt}
use Rattle.fx_base.specs.Forms.{Begins, IsIn, GoesTo, IsNumber, digits_of}

-- a prefix of what begins a text of the form begins one
pub begins_prefix : {A : Type 0} (Form : List ℕ → A → Type 0) (text : List ℕ) (n m : ℕ) → n ≤ m → Begins Form (take m text) → Begins Form (take n text)
begins_prefix Form text n m less b =
    let e : take m text ≡ take n text ++ drop n (take m text) = sym (take-append-drop n (take m text)) ∙ ap (λ (l : List ℕ). l ++ drop n (take m text)) (take-take n m text less) in
    (drop n (take m text) ++ b.0, subst (IsIn Form) (ap (λ (l : List ℕ). l ++ b.0) e ∙ append_assoc (take n text) (drop n (take m text)) b.0) b.1)

-- a text goes as far as its next byte leads out of the form
pub goes_here : {A : Type 0} (Form : List ℕ → A → Type 0) (text : List ℕ) (at : ℕ) → at < length text → Begins Form (take at text) → ¬ Begins Form (take (at + 1) text) → GoesTo Form text at
goes_here Form text at inside b out = record {
  within = omega arith;
  begins = b;
  furthest = λ n less g. elim (cases_lt at n) [
    | inl past ↦ absurd (out (begins_prefix Form text (at + 1) n (omega arith) g))
    | inr before ↦ before
  ];
}

-- or to its end
pub goes_through : {A : Type 0} (Form : List ℕ → A → Type 0) (text : List ℕ) (at : ℕ) → at ≡ length text → Begins Form (take at text) → GoesTo Form text at
goes_through Form text at end b = record { within = omega arith; begins = b; furthest = λ n less g. omega arith }

-- the digits that were read are the text's prefix
pub record IsReadPrefix (low high : ℕ) (text : List ℕ) (read : Option ℕ) (at : ℕ) : Type 0 where
  pub digits : digits_of read ≡ take at text
  pub begins : Begins (IsNumber low high) (take at text)
  pub fits : IfSome read (λ value. value ≤ high)

module _ (low high : ℕ) (text : List ℕ) where
  pub prefix_none : low ≤ high → IsReadPrefix low high text None 0
  prefix_none range = record { digits = refl; begins = (decimal low, (low, record { digits = refl; least = omega arith; most = range })); fits = tt }

  pub prefix_stops : (read : Option ℕ) (at : ℕ) → at < length text → ¬ Begins (IsNumber low high) (digits_of read ++ get_or text at 0 ∷ []) → IsReadPrefix low high text read at → GoesTo (IsNumber low high) text at
  prefix_stops read at inside out f =
      let e : digits_of read ++ get_or text at 0 ∷ [] ≡ take (at + 1) text = ap (λ (l : List ℕ). l ++ get_or text at 0 ∷ []) f.digits ∙ sym (take_more text at 0 inside) in
      goes_here (IsNumber low high) text at inside f.begins (λ b. out (subst (Begins (IsNumber low high)) (sym e) b))

  is_number : (read : Option ℕ) (at value : ℕ) → read ≡ Some value → low ≤ value → IsReadPrefix low high text read at → IsNumber low high (take at text) value
  is_number read at value e least f = record { digits = sym f.digits ∙ ap digits_of e; least = least; most = rw e at f.fits }

  no_number : (read : Option ℕ) (at : ℕ) → high < 2 ^ 16 → IfSome read (λ value. value < low) → IsReadPrefix low high text read at → ¬ IsIn (IsNumber low high) (take at text)
  no_number None at small below f (y, n) =
      let e : [] ≡ decimal y = f.digits ∙ n.digits in
      let long : 0 < length (decimal y) = decimal_nonempty y (omega (arith, n.most)) in
      absurd (omega (arith, ap length e))
  no_number (Some value) at small below f (y, n) =
      let e : value ≡ y = decimal_injective value y (omega (arith, f.fits)) (omega (arith, n.most)) (f.digits ∙ n.digits) in
      absurd (omega (arith, n.least))

  -- ---- what `number` answers, by what `ended` does
  pub found : (read : Option ℕ) (at : ℕ) (result : Result (ℕ × ℕ) ℕ) → IsReadPrefix low high text read at → GoesTo (IsNumber low high) text at → IfOk result (λ f. (read ≡ Some f.0) × (low ≤ f.0) × (f.1 ≡ at)) → IfOk result (λ f. IsNumber low high (take f.1 text) f.0 × GoesTo (IsNumber low high) text f.1)
  found read at (Ok r) f g h =
      let same : at ≡ r.1 = sym h.2 in
      subst (λ (n : ℕ). IsNumber low high (take n text) r.0 × GoesTo (IsNumber low high) text n) same (is_number read at r.0 h.0 h.1 f, g)
  found read at (Err e) f g h = tt

  pub unfound : (read : Option ℕ) (at : ℕ) (result : Result (ℕ × ℕ) ℕ) → high < 2 ^ 16 → IsReadPrefix low high text read at → GoesTo (IsNumber low high) text at → IfErr result (λ end. (end ≡ at) × IfSome read (λ value. value < low)) → IfErr result (λ end. (¬ IsIn (IsNumber low high) (take end text)) × GoesTo (IsNumber low high) text end)
  unfound read at (Ok r) small f g h = tt
  unfound read at (Err e) small f g h =
      let same : at ≡ e = sym h.0 in
      subst (λ (n : ℕ). (¬ IsIn (IsNumber low high) (take n text)) × GoesTo (IsNumber low high) text n) same (no_number read at small h.1 f, g)
