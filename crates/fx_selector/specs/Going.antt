-- A series that is read so far.
use Rattle.std.specs.Prelude.{◌≡◌, ℕ, zero, suc, ◌<◌, ◌≤◌, List, [], ◌∷◌, ◌++◌, length, eqb}
use Rattle.fx_selector.specs.Reading.{spent, Res, Got, bind, mapped, mark, stop, go_on, series}

abbrev pub with_list : {A : Type 0} → List A → Res (List A) → Res (List A)
with_list prefix x = bind x (λ v rest. Got (prefix ++ v) rest)

-- behind an operand, where so many more may come
abbrev pub going : {A : Type 0} → (List ℕ → Res A) → ℕ → List ℕ → ℕ → A → List ℕ → Res (List A)
going r b bs zero = go_on (λ a. a ∷ []) (λ c. eqb c b) (λ a. stop spent)
going r b bs (suc n) = go_on (λ a. a ∷ []) (λ c. eqb c b) (λ a. mapped (λ more. a ∷ more) (λ x. bind (mark (b ∷ bs) x) (λ _. series r b bs n)))

abbrev pub Going : {A : Type 0} → (ℕ → List ℕ → Res A) → ℕ → List ℕ → List ℕ → List A → List ℕ → Type 0
Going {A} r b bs start parts after =
    (n : ℕ) → length start < n → (k : ℕ) × (pre : List A) × (a : A) × (parts ≡ pre ++ a ∷ []) × (length after ≤ k) × (with_list pre (going (r n) b bs k a after) ≡ series (r n) b bs n start)
