-- Texts that compare alike are one, and what maps with keys of bytes have at a key.
use Rattle.std.proofs.Common.{◌≡◌, ℕ, Bool, true, false, cond, List, Option, Some, None, is_some, refl, sym, ap, ◌∙◌}
use Rattle.std.specs.declared.cmp.Ordering.{Ordering}
use Rattle.std.specs.declared.cmp.Ordering.TheVariants.{Less, Equal, Greater}
use Rattle.std.specs.Ordering.{nat_cmp, is_eq}
use Rattle.std.specs.Cmp.{tied_itself}
use Rattle.std.specs.Cmp.Lexicographic.{slice_cmp, nat_list_cmp_total}
use Rattle.fx_base.proofs.KeyCases.{bytes_exact}
use Rattle.fx_scanner.specs.Uses.{same_text}
use Rattle.fx_base.proofs.Cases.{equal, same_some, none_some, absent_value}

pub one_text : (t u : List ℕ) → same_text t u ≡ true → t ≡ u
one_text t u h = bytes_exact t u (equal (slice_cmp nat_cmp t u) h)

pub own_text : (t : List ℕ) → same_text t t ≡ true
own_text t = ap is_eq (tied_itself nat_list_cmp_total t)

pub from_one : (t u : List ℕ) → t ≡ u → same_text t u ≡ true
from_one t u h = ap (λ v. same_text t v) (sym h) ∙ own_text t

pub not_both : {A : Type 0} (b : Bool) → b ≡ true → b ≡ false → A
not_both true h g = cc
not_both false h g = cc

-- what can't hold fails
pub fails : (b : Bool) → (b ≡ true → ⊥) → b ≡ false
fails true h = absurd (h refl)
fails false h = refl

pub other_text : (t u : List ℕ) → (t ≡ u → ⊥) → same_text t u ≡ false
other_text t u other = fails (same_text t u) (λ h. other (one_text t u h))

pub whether : {A : Type 0} (b : Bool) → (b ≡ true → A) → (b ≡ false → A) → A
whether true f g = f refl
whether false f g = g refl

-- a value at a text
pub at_text : {A : Type 0} (f : List ℕ → A) (k q : List ℕ) (x : A) → f k ≡ x → cond (same_text q k) x (f q) ≡ f q
at_text f k q x h =
    elim (same_text q k) as (λ b. same_text q k ≡ b → cond b x (f q) ≡ f q) [
      | true ↦ λ e. sym h ∙ ap f (sym (one_text q k e))
      | false ↦ λ e. refl
    ] refl
