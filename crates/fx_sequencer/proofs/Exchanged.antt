-- What a map holds at a key once the value there was exchanged.
use Rattle.std.proofs.Common.{◌≡◌, ℕ, List, IsSome, is_some, ap, ◌∙◌}
use Rattle.std.specs.FinMap.{get, insert}
use Rattle.fx_base.proofs.AtKey.{get_insert_same, insert_twice_bytes, insert_same_bytes}
use Rattle.fx_model.specs.Messages.{Named}

module _ {X : Type 0} where
  pub there : (m n : Named X) (k : List ℕ) (x : X) → n ≡ insert m k x → IsSome (get n k)
  there m n k x put = ap (λ h. is_some (get h k)) put ∙ ap is_some (get_insert_same m k x)

pub ruleset exchanges = (there, insert_twice_bytes, insert_same_bytes)
