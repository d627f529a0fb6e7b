-- What was sent and what is wanted, each whole.
use Rattle.std.specs.Prelude.{ℕ, List, Option, refl}
use Rattle.std.specs.Option.{option_and_then}
use Rattle.std.specs.Coded.{Coded, code_by, coded×}
use Rattle.std.specs.FinMap as maps
use Rattle.fx_model.specs.Messages.{Named}

pub record TwoSides (A : Type 0) : Type 0 where
  pub sent : A
  pub wanted : A

-- two sides are stored as a pair
abbrev pub two_sides_code : {A : Type 0} → Coded A → Coded (TwoSides A)
two_sides_code {A} c = code_by (A × A) (coded× c c) (λ s. (s.sent, s.wanted)) (λ p. record { sent = p.0; wanted = p.1 }) (λ _. refl)

-- one side of what is kept at a key
abbrev pub side_at : {E X : Type 0} → (E → Option X) → Named E → List ℕ → Option X
side_at side held k = option_and_then side (maps.get held k)
