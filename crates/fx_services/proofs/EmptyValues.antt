-- Texts and lists that hold nothing.
use Rattle.std.proofs.Common.{◌≡◌, ℕ, Bool, true, false, not, ◌==◌, List, [], ◌∷◌, length, refl, arith}
use Rattle.std.proofs.lemmas.Bool.{eqb-true}
use Rattle.serde_json.specs.View.{items_view}
use Rattle.serde_json.specs.declared.value.Value.{Value}
use Rattle.fx_base.specs.Given.{is_given}
use Rattle.fx_services.specs.Services.{are_none}

some_length : {A : Type 0} (x : A) (xs : List A) (b : Bool) → (length (x ∷ xs) == 0) ≡ b → b ≡ false
some_length x xs true e = absurd (omega (arith, eqb-true (length (x ∷ xs)) 0 e))
some_length x xs false e = refl

pub no_text : (bytes : List ℕ) → (length bytes == 0) ≡ not (is_given bytes)
no_text [] = refl
no_text (b ∷ bs) = some_length b bs (length (b ∷ bs) == 0) refl

pub no_values : (values : List Value) → (length values == 0) ≡ are_none (items_view values)
no_values [] = refl
no_values (v ∷ vs) = some_length v vs (length (v ∷ vs) == 0) refl
