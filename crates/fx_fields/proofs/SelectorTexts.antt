-- A selector's text is read as the language has it, and refused at the place of its fault.
use Rattle.std.proofs.Common.{◌≡◌, ℕ, zero, suc, ◌+◌, ◌-◌, ◌<◌, ◌≤◌, Bool, true, false, List, [], ◌∷◌, length, Option, Some, None, Result, Ok, Err, IfOk, refl, sym, ap, subst, ◌∙◌, arith, lit<, length-append}
use Rattle.std.specs.Prelude.{IfSome, nat_lt, if◌then◌else◌}
use Rattle.std.proofs.lemmas.Bool.{ltb-true, ltb-false}
use Rattle.serde_json.specs.Data.{Data, null, boolean, number, string, array, object}
use Rattle.fx_selector.specs.Tree.{Tree, IsTree, height}
use Rattle.fx_selector.specs.Language.{SelectorText}
use Rattle.fx_selector.specs.Reading.{unexpected, deep, long, spent, Res, Got, Stop}
use Rattle.fx_selector.specs.Reader.{parsed}
use Rattle.fx_selector.specs.Places.{Means, IsSelectorFault}
use Rattle.fx_selector.specs.declared.fault.Fault.TheVariants as fault
use Rattle.fx_selector.specs.declared.fault.SelectorFault.{SelectorFault}
use Rattle.fx_selector.specs.declared.fault.SelectorFault.TheVariants.{Unexpected, TooDeep, TooLong, KeyTooLong, Memory}
use Rattle.fx_selector.proofs.Complete.{IsAnswered, whole_answers}
use Rattle.fx_selector.proofs.Grow.{Agrees}
use Rattle.fx_selector.proofs.GrowAll.{whole_agrees}
use Rattle.fx_selector.proofs.Parsing.{is_fault, meant_selector, one_meant, only_memory}
use Rattle.fx_selector.proofs.OneFault.{one_fault}
use Rattle.fx_fields.specs.Fields.{field, defaulted}
use Rattle.fx_fields.specs.Paths.{member_path}
use Rattle.fx_fields.specs.Selectors.{fault_place, tree_or_place, selector_of, placed, spelled, selector, selector_at}
use Rattle.fx_fields.proofs.Readings.{then-if, at_member-if}

-- ---- reading

abbrev Same : Res Tree → Res Tree → Type 0
Same x y = x ≡ y

-- Each member of a series takes a byte, so that reading never stops for want of members.
module _ (key : ℕ) (pos : 0 < key) (depth : ℕ) where
  answered : (n : ℕ) (text : List ℕ) (x : Res Tree) → parsed key n depth text ≡ x → IsAnswered (SelectorText key n depth) (parsed key n depth) text x
  answered n text x e = subst (IsAnswered (SelectorText key n depth) (parsed key n depth) text) e (whole_answers key pos n depth text)

  goes_on : (n : ℕ) (text rest : List ℕ) → parsed key (suc n) depth text ≡ Stop spent rest → Agrees false false (parsed key n depth text) (Stop spent rest)
  goes_on n text rest e = subst (Agrees false false (parsed key n depth text)) e (whole_agrees false false key key refl pos n (suc n) (omega arith) depth depth refl text)

  spends : (n : ℕ) (text rest : List ℕ) → parsed key n depth text ≡ Stop spent rest → length rest + n ≤ length text
  spends zero text rest e = let a = answered zero text (Stop spent rest) e in omega (arith, ap length a.1, length-append a.0 rest)
  spends (suc n) text rest e = by (spends n text) (parsed key n depth text) refl (goes_on n text rest e)
    where
      by : ((r : List ℕ) → parsed key n depth text ≡ Stop spent r → length r + n ≤ length text) → (x : Res Tree) → parsed key n depth text ≡ x → Agrees false false x (Stop spent rest) → length rest + suc n ≤ length text
      by before (Got t r) was now = (let same : Stop spent rest ≡ Got t r = now in cc)
      by before (Stop unexpected r) was now = (let same : Same (Stop spent rest) (Stop unexpected r) = now in cc)
      by before (Stop deep r) was now = (let same : Same (Stop spent rest) (Stop deep r) = now in cc)
      by before (Stop long r) was now = (let same : Same (Stop spent rest) (Stop long r) = now in cc)
      by before (Stop spent r) was now = omega (arith, now, before r was)

-- what a text's reading says of the text
abbrev pub IsRead : List ℕ → Result Tree ℕ → Type 0
IsRead text (Ok t) = Means text t
IsRead text (Err at) = (f : SelectorFault) × (fault_place f ≡ Some at) × IsSelectorFault text f

within : (text : List ℕ) → length text ≤ 65536 → (x : Res Tree) → parsed 512 (length text + 1) 64 text ≡ x → IsRead text (tree_or_place (length text) x)
within text short (Got t rest) e = (short, (length text + 1, (answered 512 (lit< tt) 64 (length text + 1) text (Got t rest) e).1))
within text short (Stop unexpected rest) e = (Unexpected (length text - length rest), refl, is_fault text short fault.Unexpected rest e)
within text short (Stop deep rest) e = (TooDeep (length text - length rest), refl, is_fault text short fault.TooDeep rest e)
within text short (Stop long rest) e = (KeyTooLong (length text - length rest), refl, is_fault text short fault.KeyTooLong rest e)
within text short (Stop spent rest) e = absurd (omega (arith, spends 512 (lit< tt) 64 (length text + 1) text rest e))

pub is_read : (text : List ℕ) → IsRead text (selector_of text)
unfolding selector_of
is_read text = by (nat_lt 65536 (length text)) refl
  where
    by : (b : Bool) → nat_lt 65536 (length text) ≡ b → IsRead text (if b then Err 65536 else tree_or_place (length text) (parsed 512 (length text + 1) 64 text))
    by true e = (TooLong, refl, ltb-true 65536 (length text) e)
    by false e = within text (ltb-false 65536 (length text) e) (parsed 512 (length text + 1) 64 text) refl

-- ---- and what the language says of a text is what is read

no_place : (f : SelectorFault) (at : ℕ) → fault_place f ≡ Some at → f ≡ Memory → ⊥
no_place f at p e = (let none : None ≡ Some at = sym (ap fault_place e) ∙ p in cc)

pub reads : (text : List ℕ) (t : Tree) → Means text t → selector_of text ≡ Ok t
reads text t m = by (selector_of text) refl (is_read text)
  where
    by : (r : Result Tree ℕ) → selector_of text ≡ r → IsRead text r → selector_of text ≡ Ok t
    by (Ok u) e is = e ∙ ap Ok (one_meant text u t is m)
    by (Err at) e is = absurd (no_place is.0 at is.1 (only_memory text t is.0 m is.2))

pub refuses : (text : List ℕ) (f : SelectorFault) (at : ℕ) → IsSelectorFault text f → fault_place f ≡ Some at → selector_of text ≡ Err at
refuses text f at h p = by (selector_of text) refl (is_read text)
  where
    by : (r : Result Tree ℕ) → selector_of text ≡ r → IsRead text r → selector_of text ≡ Err at
    by (Ok u) e is = absurd (no_place f at p (only_memory text u f is h))
    by (Err n) e is =
        let same : is.0 ≡ f = one_fault text is.0 f (no_place is.0 n is.1) (no_place f at p) is.2 h in
        let places : Some n ≡ Some at = sym is.1 ∙ (ap fault_place same ∙ p) in
        let place : n ≡ at = cc in e ∙ ap Err place

-- ---- what a selector that is read is

-- a tree that some text spells, and not too deep
abbrev pub IsSpelled : Tree → Type 0
IsSpelled t = IsTree t × (height t ≤ 131)

abbrev pub IsPart : Option Tree → Type 0
IsPart part = IfSome part IsSpelled

abbrev pub IsShallow : Option Tree → Type 0
IsShallow part = IfSome part (λ t. height t ≤ 131)

placed-ok : (path : List ℕ) (r : Result Tree ℕ) (t : Tree) → placed path r ≡ Ok t → r ≡ Ok t
placed-ok path (Ok u) t e = cc
placed-ok path (Err at) t e = cc

spelled-part : (path s : List ℕ) (t : Tree) → spelled path s ≡ Ok t → IsSpelled t
spelled-part path s t e =
    let m = meant_selector s t (subst (IsRead s) (placed-ok path (selector_of s) t e) (is_read s)) in (m.0.tree, m.1)

selector-part : (path : List ℕ) (d : Data) → IfOk (selector path d) IsPart
selector-part path null = tt
selector-part path (boolean b) = tt
selector-part path (number n) = tt
selector-part path (string []) = tt
selector-part path (string (b ∷ s)) = then-if IsPart (spelled path (b ∷ s)) (λ t. Ok (Some t)) (λ t is. spelled-part path (b ∷ s) t is)
selector-part path (array ds) = tt
selector-part path (object ms) = tt

pub selector_at-part : (path k : List ℕ) (d : Data) → IfOk (selector_at path k d) IsPart
unfolding selector_at defaulted
selector_at-part path k d = at_member-if IsPart (Ok None) (selector (member_path path k)) (field k d) tt (selector-part (member_path path k))

pub part-shallow : (part : Option Tree) → IsPart part → IsShallow part
part-shallow None is = tt
part-shallow (Some t) is = is.1
