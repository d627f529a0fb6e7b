-- Names in any case, and tables of them.
use Rattle.std.proofs.Common.{◌≡◌, ◌≢◌, ◌<◌, ◌≤◌, ℕ, max, Bool, true, false, not, ◌&&◌, List, [], ◌∷◌, ◌++◌, length, take, drop, get_or, Result, Ok, Err, refl, sym, ap, subst, ◌∙◌, arith, inl, inr, nat_eq, length-append, take-append-drop}
use Rattle.std.specs.Str.{str_to_ascii_lowercase}
use Rattle.std.specs.Char.{to_ascii_lowercase}
use Rattle.std.specs.Cmp.{unsigned_Decides}
use Rattle.std.specs.Cmp.Lexicographic.{pointwise}
use Rattle.std.proofs.lemmas.Slice.Eq.{slice_eq-Decides}
use Rattle.std.proofs.lemmas.Bool.{cases_lt}
use Rattle.std.proofs.lemmas.List.{append-nil, map-append, drop-map, length-map, take_all, length-take-le, get_or-take, get_or_append_left, get_or-map}
use Rattle.fx_base.specs.Forms.{Begins, Leaves, Reads}
use Rattle.fx_base.specs.Same.{both_pass}
use Rattle.fx_base.specs.Protocols.{IsNamed, IsNamedIn, farther}

-- a byte of a text that is the name
same_letter : (text name : List ℕ) (n m : ℕ) (rest : List ℕ) → n < m → m ≤ length text → str_to_ascii_lowercase (take m text ++ rest) ≡ name → (n < length name) × (to_ascii_lowercase (get_or text n 0) ≡ get_or name n 0)
same_letter text name n m rest less fits e =
    let prefix : length (take m text) ≡ m = length-take-le m text fits in
    let whole : n < length (take m text ++ rest) = omega (arith, length-append (take m text) rest) in
    let inside : n < length (take m text) = omega arith in
    let long : length (take m text ++ rest) ≡ length name = sym (length-map (take m text ++ rest) to_ascii_lowercase) ∙ ap length e in (
      omega arith,
      ap to_ascii_lowercase (sym (get_or-take m text n 0 less) ∙ sym (get_or_append_left (take m text) rest 0 n inside))
          ∙ sym (get_or-map to_ascii_lowercase (take m text ++ rest) n 0 0 whole) ∙ ap (λ (l : List ℕ). get_or l n 0) e,
    )

-- a text that shares so many bytes with the name and no more
pub named_leaves : (text name : List ℕ) (number n : ℕ) → str_to_ascii_lowercase name ≡ name → n ≤ length text → n ≤ length name → str_to_ascii_lowercase (take n text) ≡ take n name → (n < length text → n < length name → to_ascii_lowercase (get_or text n 0) ≢ get_or name n 0) → ((n ≡ length text) × (n ≡ length name) → ⊥) → Leaves (IsNamed name number) text n
named_leaves text name number n low a b same stop whole = record {
  none = λ value h.
      let p : str_to_ascii_lowercase (take (length text) text ++ []) ≡ name = ap str_to_ascii_lowercase (append-nil _ ∙ take_all (length text) text (omega arith)) ∙ h.0 in
      let long : length text ≡ length name = sym (length-map text to_ascii_lowercase) ∙ ap length h.0 in
      elim (cases_lt n (length text)) [
        | inl less ↦ let s = same_letter text name n (length text) [] less (omega arith) p in stop less s.0 s.1
        | inr more ↦ whole (omega arith, omega arith)
      ];
  goes = record {
    within = a;
    begins = (drop n name, (number, (map-append to_ascii_lowercase (take n text) (drop n name) ∙ (λ i. same i ++ (sym (drop-map to_ascii_lowercase n name) ∙ ap (drop n) low) i) ∙ take-append-drop n name, refl)));
    furthest = λ m fits g. elim (cases_lt n m) [
      | inl less ↦ let s = same_letter text name n m g.0 less fits g.1.1.0 in absurd (stop (omega arith) s.0 s.1)
      | inr more ↦ more
    ];
  };
}

-- ---- tables of names
different : (a b : List ℕ) → pointwise nat_eq a b ≡ false → a ≡ b → ⊥
different a b e same = let t : pointwise nat_eq a b ≡ true = (slice_eq-Decides unsigned_Decides a b _ refl).1 same in cc

-- no name of the table is this one
abbrev pub is_new : List ℕ → List (List ℕ × ℕ) → Bool
is_new name [] = true
is_new name (entry ∷ table) = not (pointwise nat_eq name entry.0) && is_new name table

pub no_other : (name : List ℕ) (table : List (List ℕ × ℕ)) → is_new name table ≡ true → (text : List ℕ) (value : ℕ) → str_to_ascii_lowercase text ≡ name → IsNamedIn table text value → ⊥
no_other name [] new text value e h = h
no_other name (entry ∷ table) new text value e h =
    let both = both_pass (not (pointwise nat_eq name entry.0)) (is_new name table) new in
    elim h [
      | inl one ↦ different name entry.0 (turned _ both.0) (sym e ∙ one.0)
      | inr more ↦ no_other name table both.1 text value e more
    ]
  where
    turned : (b : Bool) → not b ≡ true → b ≡ false
    turned true e = cc
    turned false e = refl

pub alone : (name : List ℕ) (number : ℕ) (text : List ℕ) (r : Result ℕ ℕ) → Reads (IsNamed name number) text r → Reads (IsNamedIn ((name, number) ∷ [])) text r
alone name number text (Ok value) m = record { is = inl m.is; only = λ other h. elim h [ inl one ↦ m.only other one | inr none ↦ absurd none ] }
alone name number text (Err at) m = record {
  none = λ other h. elim h [ inl one ↦ m.none other one | inr none ↦ none ];
  goes = record {
    within = m.goes.within;
    begins = let b = m.goes.begins in (b.0, (b.1.0, inl b.1.1));
    furthest = λ i fits b. elim b.1.1 [ inl one ↦ m.goes.furthest i fits (b.0, (b.1.0, one)) | inr none ↦ absurd none ];
  };
}

module _ (name : List ℕ) (number : ℕ) (table : List (List ℕ × ℕ)) (new : is_new name table ≡ true) (text : List ℕ) where
  pub joined : (r s : Result ℕ ℕ) → Reads (IsNamed name number) text r → Reads (IsNamedIn table) text s → Reads (IsNamedIn ((name, number) ∷ table)) text (farther r s)
  joined (Ok value) s m t = record { is = inl m.is; only = λ other h. elim h [ inl one ↦ m.only other one | inr more ↦ absurd (no_other name table new text other m.is.0 more) ] }
  joined (Err at) (Ok value) m t = record { is = inr t.is; only = λ other h. elim h [ inl one ↦ absurd (m.none other one) | inr more ↦ t.only other more ] }
  joined (Err at) (Err further) m t = record {
    none = λ other h. elim h [ inl one ↦ m.none other one | inr more ↦ t.none other more ];
    goes = record {
      within = omega (arith, m.goes.within, t.goes.within);
      begins = elim (cases_lt at further) [
        | inl less ↦
            let b = t.goes.begins in
            let e : further ≡ max at further = omega arith in
            subst (λ (n : ℕ). Begins (IsNamedIn ((name, number) ∷ table)) (take n text)) e (b.0, (b.1.0, inr b.1.1))
        | inr more ↦
            let b = m.goes.begins in
            let e : at ≡ max at further = omega arith in
            subst (λ (n : ℕ). Begins (IsNamedIn ((name, number) ∷ table)) (take n text)) e (b.0, (b.1.0, inl b.1.1))
      ];
      furthest = λ i fits b. elim b.1.1 [
        | inl one ↦ let h : i ≤ at = m.goes.furthest i fits (b.0, (b.1.0, one)) in omega arith
        | inr more ↦ let h : i ≤ further = t.goes.furthest i fits (b.0, (b.1.0, more)) in omega arith
      ];
    };
  }
