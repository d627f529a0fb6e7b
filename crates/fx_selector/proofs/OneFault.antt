-- A text has at most one fault.
use Rattle.std.proofs.Common.{◌≡◌, ◌≢◌, ℕ, ◌<◌, List, [], ◌∷◌, ◌++◌, length, take, drop, refl, sym, ap, subst, ◌∙◌, arith, lit<, length-take, length-drop}
use Rattle.std.proofs.lemmas.List.{take-append-drop}
use Rattle.fx_selector.specs.Reading.{Cause, unexpected, deep, long}
use Rattle.fx_selector.specs.Places.{Spells, KeysWithin, NestsWithin, Begins, StandsAt, IsSelectorFault}
use Rattle.fx_selector.specs.declared.fault.SelectorFault.{SelectorFault}
use Rattle.fx_selector.specs.declared.fault.SelectorFault.TheVariants.{Unexpected, TooDeep, TooLong, KeyTooLong, Memory}
use Rattle.fx_selector.proofs.Faults.{Stands}
use Rattle.fx_selector.proofs.Places.{one_place}

abbrev At : Cause → List ℕ → ℕ → Type 0
At why = StandsAt (Stands 512 64 why)

not_before : (v w : Cause) (text : List ℕ) (a b : ℕ) → At v text a → At w text b → b < a → ⊥
not_before v w text a b h k l = by (drop b text) refl
  where
    by : (rest : List ℕ) → drop b text ≡ rest → ⊥
    by [] e = absurd (omega (arith, h.1, l, ap length e, length-drop b text))
    by (c ∷ m) e = one_place 512 (lit< tt) 64 (take a text) (take b text) (drop a text) c m v w
        (take-append-drop a text ∙ (sym (take-append-drop b text) ∙ ap (λ z. take b text ++ z) e))
        h.2 (subst (Stands 512 64 w (take b text)) e k.2) (omega (arith, h.1, k.1, length-take a text, length-take b text))

same_place : (v w : Cause) (text : List ℕ) (a b : ℕ) → At v text a → At w text b → a ≡ b
same_place v w text a b h k = omega (arith, not_before v w text a b h k, not_before w v text b a k h)

spells_keys : (text : List ℕ) → Begins (KeysWithin 512) text → Begins Spells text
spells_keys text b = (b.0, b.1, (512, b.2.0, b.2.1, lit< tt, b.2.2))

spells_nests : (text : List ℕ) → Begins (NestsWithin 64) text → Begins Spells text
spells_nests text b = (b.0, b.1, (b.2.0, b.2.1, 64, b.2.2, b.2.3))

unexpected_deep : (taken rest : List ℕ) → Stands 512 64 unexpected taken rest → Stands 512 64 deep taken rest → ⊥
unexpected_deep taken rest h k = h.1 k.1 k.2 k.3 (spells_keys (taken ++ k.1 ∷ []) k.4)

unexpected_long : (taken rest : List ℕ) → Stands 512 64 unexpected taken rest → Stands 512 64 long taken rest → ⊥
unexpected_long taken rest h k = h.1 k.1 k.2 k.3 (spells_nests (taken ++ k.1 ∷ []) k.4)

deep_long : (taken rest : List ℕ) → Stands 512 64 deep taken rest → Stands 512 64 long taken rest → ⊥
deep_long taken rest h k =
    let e : h.1 ∷ h.2 ≡ k.1 ∷ k.2 = sym h.3 ∙ k.3 in
    let same : h.1 ≡ k.1 = cc in
    h.5 (subst (λ c. Begins (NestsWithin 64) (taken ++ c ∷ [])) (sym same) k.4)

moved : (why : Cause) (text : List ℕ) (a b : ℕ) → a ≡ b → At why text b → At why text a
moved why text a b e h = subst (At why text) (sym e) h

apart : (v w : Cause) (text : List ℕ) → ((taken rest : List ℕ) → Stands 512 64 v taken rest → Stands 512 64 w taken rest → ⊥) → (a b : ℕ) → At v text a → At w text b → ⊥
apart v w text never a b h k = never (take a text) (drop a text) h.2 (moved w text a b (same_place v w text a b h k) k).2

pub one_fault : (text : List ℕ) (f g : SelectorFault) → f ≢ Memory → g ≢ Memory → IsSelectorFault text f → IsSelectorFault text g → f ≡ g
one_fault text Memory g x y h k = absurd (x refl)
one_fault text f Memory x y h k = absurd (y refl)
one_fault text TooLong TooLong x y h k = refl
one_fault text (Unexpected a) (Unexpected b) x y h k = ap Unexpected (same_place unexpected unexpected text a b h k)
one_fault text (TooDeep a) (TooDeep b) x y h k = ap TooDeep (same_place deep deep text a b h k)
one_fault text (KeyTooLong a) (KeyTooLong b) x y h k = ap KeyTooLong (same_place long long text a b h k)
one_fault text (Unexpected a) (TooDeep b) x y h k = absurd (apart unexpected deep text unexpected_deep a b h k)
one_fault text (TooDeep a) (Unexpected b) x y h k = absurd (apart unexpected deep text unexpected_deep b a k h)
one_fault text (Unexpected a) (KeyTooLong b) x y h k = absurd (apart unexpected long text unexpected_long a b h k)
one_fault text (KeyTooLong a) (Unexpected b) x y h k = absurd (apart unexpected long text unexpected_long b a k h)
one_fault text (TooDeep a) (KeyTooLong b) x y h k = absurd (apart deep long text deep_long a b h k)
one_fault text (KeyTooLong a) (TooDeep b) x y h k = absurd (apart deep long text deep_long b a k h)
one_fault text TooLong (Unexpected b) x y h k = absurd (omega (arith, h, k.0))
one_fault text TooLong (TooDeep b) x y h k = absurd (omega (arith, h, k.0))
one_fault text TooLong (KeyTooLong b) x y h k = absurd (omega (arith, h, k.0))
one_fault text (Unexpected a) TooLong x y h k = absurd (omega (arith, h.0, k))
one_fault text (TooDeep a) TooLong x y h k = absurd (omega (arith, h.0, k))
one_fault text (KeyTooLong a) TooLong x y h k = absurd (omega (arith, h.0, k))
