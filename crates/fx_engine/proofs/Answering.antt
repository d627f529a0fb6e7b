-- Whether a message is pending, from what the graph answers.
use Rattle.std.proofs.Common.{◌≡◌, Bool, true, false, Option, is_some, refl, sym, ◌∙◌}
use Rattle.std.specs.Prelude.{◌↔◌}

no_some : {A : Type 0} → true ≡ false → A
no_some e = cc

is_true : (b : Bool) → (b ≡ false → true ≡ false) → b ≡ true
is_true true none = refl
is_true false none = sym (none refl)

pub pending-tells : {A Same : Type 0} (o : Option A) (failed : Bool) → failed ≡ false → (is_some o ≡ false) ↔ Same → (is_some o ≡ true) ↔ ((failed ≡ false) × (¬ Same))
pending-tells o failed ready none = (
  λ some. (ready, λ same. no_some (sym some ∙ none.1 same)),
  λ differ. is_true (is_some o) (λ silent. absurd (differ.1 (none.0 silent))),
)

pub failed-tells : {Differ : Type 0} (failed : Bool) → failed ≡ true → (false ≡ true) ↔ ((failed ≡ false) × Differ)
failed-tells failed was = (λ e. no_some (sym e), λ both. no_some (sym was ∙ both.0))

pub failed-still : {A : Type 0} (failed : Bool) → failed ≡ true → failed ≡ false → A
failed-still failed was ready = no_some (sym was ∙ ready)
