-- A text has at most one place of a fault, and none where it has a tree.
use Rattle.std.proofs.Common.{◌≡◌, ℕ, ◌<◌, List, [], ◌∷◌, ◌++◌, length, refl, sym, ap, subst, ◌∙◌, append_assoc, append-nil, arith}
use Rattle.fx_selector.specs.Reading.{Cause, unexpected, deep, long, spent}
use Rattle.fx_selector.specs.Language.{SelectorText}
use Rattle.fx_selector.specs.Tree.{Tree}
use Rattle.fx_selector.specs.Places.{Allows, NestsWithin, KeysWithin, Begins}
use Rattle.fx_selector.proofs.Faults.{Stands}

module _ (key : ℕ) (pos : 0 < key) (depth : ℕ) where
  pub prefix_begins : (a b : List ℕ) → Begins (Allows key depth) (a ++ b) → Begins (Allows key depth) a
  prefix_begins a b h = (b ++ h.0, h.1, subst (λ z. Allows key depth z h.1) (append_assoc a b h.0) h.2)

  -- no text within the limits goes on past a fault
  pub goes_nowhere : (why : Cause) (taken : List ℕ) (c : ℕ) (m : List ℕ) → Stands key depth why taken (c ∷ m) → Begins (Allows key depth) (taken ++ c ∷ []) → ⊥
  goes_nowhere unexpected taken c m s b = s.1 c m refl (b.0, b.1, (key, b.2.0, depth, pos, b.2.1))
  goes_nowhere deep taken c m s b = let same : s.1 ≡ c = (let e : c ∷ m ≡ s.1 ∷ s.2 = s.3 in cc) in s.5 (subst (λ x. Begins (NestsWithin depth) (taken ++ x ∷ [])) (sym same) (b.0, b.1, (key, b.2.0, pos, b.2.1)))
  goes_nowhere long taken c m s b = let same : s.1 ≡ c = (let e : c ∷ m ≡ s.1 ∷ s.2 = s.3 in cc) in s.5 (subst (λ x. Begins (KeysWithin key) (taken ++ x ∷ [])) (sym same) (b.0, b.1, (b.2.0, depth, b.2.1)))
  goes_nowhere spent taken c m s b = s

  pub begun_before : (why : Cause) (taken rest : List ℕ) → Stands key depth why taken rest → Begins (Allows key depth) taken
  begun_before unexpected taken rest s = s.0
  begun_before deep taken rest s = s.0
  begun_before long taken rest s = s.0
  begun_before spent taken rest s = absurd s

  -- a text with a tree within the limits has no fault
  pub no_fault : (why : Cause) (taken rest : List ℕ) (t : Tree) → Stands key depth why taken rest → Allows key depth (taken ++ rest) t → ⊥
  no_fault why taken (c ∷ m) t s a = goes_nowhere why taken c m s (m, t, subst (λ z. Allows key depth z t) (sym (append_assoc taken (c ∷ []) m)) a)
  no_fault unexpected taken [] t s a = s.2 refl t (key, a.0, depth, pos, subst (λ z. SelectorText key a.0 depth z t) (append-nil taken) a.1)
  no_fault deep taken [] t s a = (let e : [] ≡ s.1 ∷ s.2 = s.3 in cc)
  no_fault long taken [] t s a = (let e : [] ≡ s.1 ∷ s.2 = s.3 in cc)
  no_fault spent taken [] t s a = s

  pub split : (p q : List ℕ) (c : ℕ) (m x : List ℕ) → p ++ x ≡ q ++ c ∷ m → length q < length p → (more : List ℕ) × (p ≡ (q ++ c ∷ []) ++ more)
  split [] q c m x e l = absurd (omega arith)
  split (d ∷ ds) [] c m x e l = (ds, (let k : d ≡ c = cc in ap (λ z. z ∷ ds) k))
  split (d ∷ ds) (f ∷ fs) c m x e l =
      let k : d ≡ f = cc in
      let tails : ds ++ x ≡ fs ++ c ∷ m = cc in
      let r = split ds fs c m x tails (omega arith) in
      (r.0, ap (λ z. z ∷ ds) k ∙ ap (λ z. f ∷ z) r.1)

  -- of two faults of one text neither stands before the other
  pub one_place : (a b x : List ℕ) (c : ℕ) (m : List ℕ) (v w : Cause) → a ++ x ≡ b ++ c ∷ m → Stands key depth v a x → Stands key depth w b (c ∷ m) → length b < length a → ⊥
  one_place a b x c m v w e s t l =
      let r = split a b c m x e l in
      goes_nowhere w b c m t (prefix_begins (b ++ c ∷ []) r.0 (subst (Begins (Allows key depth)) r.1 (begun_before v a x s)))
