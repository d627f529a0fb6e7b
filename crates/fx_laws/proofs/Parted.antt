-- Texts that are told apart by a mark or by their first bytes.
use Rattle.std.proofs.Common.{◌≡◌, ℕ, true, false, not, List, [], ◌∷◌, ◌++◌, refl, sym, ap, ◌∙◌}
use Rattle.std.specs.Prelude.{◌==◌}
use Rattle.std.specs.List.{list_all}
use Rattle.fx_base.specs.Same.{both_pass}

-- texts that begin with two bytes
pub unlike : {P : Type 0} (m n : ℕ) → (m == n) ≡ false → (n == n) ≡ true → (x y : List ℕ) → m ∷ x ≡ n ∷ y → P
unlike m n differ same x y e =
    let first : m ≡ n = cc in
    let wrong : false ≡ true = sym differ ∙ ap (λ k. k == n) first ∙ same in
    cc

module _ (mark : ℕ) (itself : (mark == mark) ≡ true) where
  -- no byte is the mark
  abbrev IsFree : List ℕ → Type 0
  IsFree bs = list_all (λ b. not (b == mark)) bs ≡ true

  no_mark_first : {P : Type 0} (b : ℕ) (bs : List ℕ) → IsFree (b ∷ bs) → b ≡ mark → P
  no_mark_first b bs h e =
      let one : not (b == mark) ≡ true = (both_pass (not (b == mark)) (list_all (λ b. not (b == mark)) bs) h).0 in
      let same : (b == mark) ≡ true = ap (λ c. c == mark) e ∙ itself in
      let wrong : false ≡ true = sym (ap not same) ∙ one in
      cc

  -- what stands before the first mark and what stands behind it
  pub parted : (ns ms n m : List ℕ) → IsFree ns → IsFree ms → ns ++ mark ∷ n ≡ ms ++ mark ∷ m → (ns ≡ ms) × (n ≡ m)
  parted [] [] n m g h e = (refl, cc)
  parted [] (b ∷ ms) n m g h e = no_mark_first b ms h (cc)
  parted (a ∷ ns) [] n m g h e = no_mark_first a ns g (cc)
  parted (a ∷ ns) (b ∷ ms) n m g h e =
      let rest = parted ns ms n m (both_pass (not (a == mark)) (list_all (λ b. not (b == mark)) ns) g).1 (both_pass (not (b == mark)) (list_all (λ b. not (b == mark)) ms) h).1 (cc) in
      let first : a ≡ b = cc in
      (λ i. first i ∷ rest.0 i, rest.1)
