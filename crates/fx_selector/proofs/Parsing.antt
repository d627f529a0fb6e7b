-- What the parser promises, from what it reads.
use Rattle.std.proofs.Common.{◌≡◌, ℕ, ◌≤◌, ◌+◌, ◌-◌, true, List, [], length, take, drop, refl, sym, ap, subst, ◌∙◌, arith, lit<, length-append}
use Rattle.std.proofs.lemmas.List.{take-append-drop}
use Rattle.std.proofs.Math.Seq.{take-append_seam, drop-append_seam}
use Rattle.fx_selector.specs.Reading.{Cause, unexpected, deep, long, spent, Res, Got, Stop}
use Rattle.fx_selector.specs.Tree.{Tree, IsSelector, height}
use Rattle.fx_selector.specs.Language.{SelectorText}
use Rattle.fx_selector.specs.Reader.{parsed}
use Rattle.fx_selector.specs.Gives.{cause}
use Rattle.fx_selector.specs.Places.{Spells, Allows, Means, IsSelectorFault}
use Rattle.fx_selector.specs.declared.fault.SelectorFault.{SelectorFault}
use Rattle.fx_selector.specs.declared.fault.SelectorFault.TheVariants as selector_fault
use Rattle.fx_selector.specs.Parsing.{fault_at}
use Rattle.fx_selector.specs.declared.fault.Fault.{Fault}
use Rattle.fx_selector.specs.declared.fault.Fault.TheVariants.{Unexpected, TooDeep, KeyTooLong}
use Rattle.fx_selector.proofs.Complete.{IsAnswered, whole_complete, whole_answers}
use Rattle.fx_selector.proofs.GrowAll.{whole_agrees}
use Rattle.fx_selector.proofs.Grow.{Agrees}
use Rattle.fx_selector.proofs.Faults.{Stands, fault}
use Rattle.fx_selector.proofs.Places.{no_fault}
use Rattle.fx_selector.proofs.Spelled.{text_said}

pub never_spent : (f : Fault) → cause f ≡ spent → ⊥
never_spent Unexpected e = cc
never_spent TooDeep e = cc
never_spent KeyTooLong e = cc

module _ (text : List ℕ) (short : length text ≤ 65536) where
  abbrev n : ℕ
  n = length text + 1

  pub answers : IsAnswered (SelectorText 512 n 64) (parsed 512 n 64) text (parsed 512 n 64 text)
  answers = whole_answers 512 (lit< tt) n 64 text

  pub means : (t : Tree) → parsed 512 n 64 text ≡ Got t [] → Means text t
  means t e = (short, (n, (subst (IsAnswered (SelectorText 512 n 64) (parsed 512 n 64) text) e answers).1))

  stop_answers : (why : Cause) (rest : List ℕ) → parsed 512 n 64 text ≡ Stop why rest → IsAnswered (SelectorText 512 n 64) (parsed 512 n 64) text (Stop why rest)
  stop_answers why rest e = subst (IsAnswered (SelectorText 512 n 64) (parsed 512 n 64) text) e answers

  -- what is left is no longer than the text
  pub left_short : (why : Cause) (rest : List ℕ) → parsed 512 n 64 text ≡ Stop why rest → length rest ≤ length text
  left_short why rest e = let a = stop_answers why rest e in omega (arith, ap length a.1, length-append a.0 rest)

  stands : (why : Cause) (rest : List ℕ) → (why ≡ spent → ⊥) → parsed 512 n 64 text ≡ Stop why rest → Stands 512 64 why (take (length text - length rest) text) (drop (length text - length rest) text)
  stands why rest real e =
      let a = stop_answers why rest e in
      let at : length text - length rest ≡ length a.0 = omega (arith, ap length a.1, length-append a.0 rest) in
      let prefix : take (length text - length rest) text ≡ a.0 = ap (λ k. take k text) at ∙ (ap (take (length a.0)) a.1 ∙ take-append_seam a.0 rest) in
      let back : drop (length text - length rest) text ≡ rest = ap (λ k. drop k text) at ∙ (ap (drop (length a.0)) a.1 ∙ drop-append_seam a.0 rest) in
      rw (prefix, back) (fault 512 (lit< tt) n 64 text a.0 rest why a.1 e a.2 a.3 real)

  -- the fault of a stop
  pub is_fault : (f : Fault) (rest : List ℕ) → parsed 512 n 64 text ≡ Stop (cause f) rest → IsSelectorFault text (fault_at f (length text - length rest))
  is_fault Unexpected rest e = (short, omega arith, stands unexpected rest (never_spent Unexpected) e)
  is_fault TooDeep rest e = (short, omega arith, stands deep rest (never_spent TooDeep) e)
  is_fault KeyTooLong rest e = (short, omega arith, stands long rest (never_spent KeyTooLong) e)

pub one_spelled : (text : List ℕ) (t u : Tree) → Spells text t → Spells text u → t ≡ u
one_spelled text t u h k =
    let w : Res Tree = parsed (h.0 + k.0 + 1) (h.1 + k.1 + 1) (h.2 + k.2 + 1) text in
    let a : Agrees true true (parsed h.0 h.1 h.2 text) w = whole_agrees true true h.0 (h.0 + k.0 + 1) (omega arith) (omega arith) h.1 (h.1 + k.1 + 1) (omega arith) h.2 (h.2 + k.2 + 1) (omega arith) text in
    let b : Agrees true true (parsed k.0 k.1 k.2 text) w = whole_agrees true true k.0 (h.0 + k.0 + 1) (omega arith) (omega arith) k.1 (h.1 + k.1 + 1) (omega arith) k.2 (h.2 + k.2 + 1) (omega arith) text in
    let c : w ≡ Got t [] = subst (λ x. Agrees true true x w) (whole_complete h.0 h.3 h.1 h.2 text t h.4) a in
    let d : w ≡ Got u [] = subst (λ x. Agrees true true x w) (whole_complete k.0 k.3 k.1 k.2 text u k.4) b in
    let z : Got t [] ≡ Got u [] = sym c ∙ d in cc

-- what a text means is a selector's tree
pub meant_selector : (text : List ℕ) (t : Tree) → Means text t → IsSelector t × (height t ≤ 131)
meant_selector text t h = let s = text_said 512 h.1.0 64 text t h.1.1 in (record { tree = s.0; shallow = omega (arith, s.1) }, omega (arith, s.1))

-- a text means at most one tree
pub one_meant : (text : List ℕ) (t u : Tree) → Means text t → Means text u → t ≡ u
one_meant text t u h k = one_spelled text t u (512, h.1.0, 64, lit< tt, h.1.1) (512, k.1.0, 64, lit< tt, k.1.1)

-- a text that means a tree has no fault but want of memory
pub only_memory : (text : List ℕ) (t : Tree) (f : SelectorFault) → Means text t → IsSelectorFault text f → f ≡ selector_fault.Memory
only_memory text t selector_fault.Memory h k = refl
only_memory text t selector_fault.TooLong h k = absurd (omega (arith, h.0, k))
only_memory text t (selector_fault.Unexpected at) h k = absurd (no_fault 512 (lit< tt) 64 unexpected (take at text) (drop at text) t k.2 (subst (λ x. Allows 512 64 x t) (sym (take-append-drop at text)) h.1))
only_memory text t (selector_fault.TooDeep at) h k = absurd (no_fault 512 (lit< tt) 64 deep (take at text) (drop at text) t k.2 (subst (λ x. Allows 512 64 x t) (sym (take-append-drop at text)) h.1))
only_memory text t (selector_fault.KeyTooLong at) h k = absurd (no_fault 512 (lit< tt) 64 long (take at text) (drop at text) t k.2 (subst (λ x. Allows 512 64 x t) (sym (take-append-drop at text)) h.1))
