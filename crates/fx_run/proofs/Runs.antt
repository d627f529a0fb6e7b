-- One item more in a run.
use Rattle.std.proofs.Common.{◌≡◌, List, [], ◌∷◌, ◌++◌, refl, sym, ◌∙◌, ap, append_assoc}
use Rattle.std.specs.List.{AllByRecursion}
use Rattle.std.proofs.lemmas.List.{append-nil}
use Rattle.fx_run.specs.Run.{state_after, written}

module _ {S A : Type 0} (next : S → A → S) where
  pub state_after-push : (s : S) (xs : List A) (x : A) → state_after next s (xs ++ x ∷ []) ≡ next (state_after next s xs) x
  unfolding state_after
  state_after-push s [] x = refl
  state_after-push s (y ∷ xs) x = state_after-push (next s y) xs x

  pub state_after-append : (s : S) (xs ys : List A) → state_after next s (xs ++ ys) ≡ state_after next (state_after next s xs) ys
  unfolding state_after
  state_after-append s [] ys = refl
  state_after-append s (x ∷ xs) ys = state_after-append (next s x) xs ys

  module _ {B : Type 0} (text : S → A → List B) where
    pub written-push : (s : S) (xs : List A) (x : A) → written next text s (xs ++ x ∷ []) ≡ written next text s xs ++ text (state_after next s xs) x
    unfolding state_after written
    written-push s [] x = append-nil (text s x)
    written-push s (y ∷ xs) x = ap (λ (l : List B). text s y ++ l) (written-push (next s y) xs x) ∙ sym (append_assoc (text s y) (written next text (next s y) xs) (text (state_after next (next s y) xs) x))

    pub written-append : (s : S) (xs ys : List A) → written next text s (xs ++ ys) ≡ written next text s xs ++ written next text (state_after next s xs) ys
    unfolding state_after written
    written-append s [] ys = refl
    written-append s (x ∷ xs) ys = ap (λ (l : List B). text s x ++ l) (written-append (next s x) xs ys) ∙ sym (append_assoc (text s x) (written next text (next s x) xs) (written next text (state_after next (next s x) xs) ys))

  -- what each item keeps holds behind any items
  pub kept_after : (P : S → Type 0) → ((s : S) (x : A) → P s → P (next s x)) → (s : S) (xs : List A) → P s → P (state_after next s xs)
  unfolding state_after
  kept_after P keeps s [] was = was
  kept_after P keeps s (x ∷ xs) was = kept_after P keeps (next s x) xs (keeps s x was)

  all_both : {B : Type 0} (P : B → Type 0) (xs ys : List B) → AllByRecursion P xs → AllByRecursion P ys → AllByRecursion P (xs ++ ys)
  all_both P [] ys p q = q
  all_both P (x ∷ xs) ys p q = (p.0, all_both P xs ys p.1 q)

  -- and of all that is given along a run holds what holds of each item's
  pub all_written : {B : Type 0} (text : S → A → List B) (P : S → Type 0) (Q : B → Type 0) → ((s : S) (x : A) → P s → P (next s x)) → ((s : S) (x : A) → P s → AllByRecursion Q (text s x)) → (s : S) (xs : List A) → P s
      → AllByRecursion Q (written next text s xs)
  unfolding written
  all_written text P Q keeps each s [] was = tt
  all_written text P Q keeps each s (x ∷ xs) was = all_both Q (text s x) (written next text (next s x) xs) (each s x was) (all_written text P Q keeps each (next s x) xs (keeps s x was))
