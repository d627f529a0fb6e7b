-- Sums and counts over lists.
use Rattle.std.proofs.Common.{◌≡◌, ◌≤◌, ℕ, ◌+◌, Bool, false, cond, List, [], ◌∷◌, map, refl, sym, ap, ◌∙◌, subst, arith}
use Rattle.std.specs.List.{AllByRecursion, count_by, sum_by}
use Rattle.std.proofs.lemmas.List.Sums.{sum_by-cons}

-- over what a function makes of each element
pub sum-mapped : {A B : Type 0} (f : B → ℕ) (g : A → B) (xs : List A) → sum_by f (map g xs) ≡ sum_by (λ x. f (g x)) xs
sum-mapped f g [] = refl
sum-mapped f g (x ∷ xs) = sum_by-cons f (g x) (map g xs) ∙ ap (λ k. f (g x) + k) (sum-mapped f g xs) ∙ sym (sum_by-cons (λ y. f (g y)) x xs)

-- where each element gives no more
pub sum_within : {A : Type 0} (f g : A → ℕ) (xs : List A) → AllByRecursion (λ x. f x ≤ g x) xs → sum_by f xs ≤ sum_by g xs
sum_within f g [] h = omega arith
sum_within f g (x ∷ xs) h =
    let one : f x ≤ g x = h.0 in
    let rest : sum_by f xs ≤ sum_by g xs = sum_within f g xs h.1 in
    subst (λ k. k ≤ sum_by g (x ∷ xs)) (sym (sum_by-cons f x xs)) (subst (λ k. f x + sum_by f xs ≤ k) (sym (sum_by-cons g x xs)) (omega (arith, one, rest)))

-- where none passes
pub count_none : {A : Type 0} (p : A → Bool) → ((x : A) → p x ≡ false) → (xs : List A) → count_by p xs ≡ 0
count_none p fails [] = refl
count_none p fails (x ∷ xs) = sum_by-cons (λ y. cond (p y) 1 0) x xs ∙ (λ j. cond (fails x j) 1 0 + count_none p fails xs j)
