-- What else a sequencer holds, beside the policies, the profiles and the endpoints that are wanted.
use Rattle.std.specs.Prelude.{◌≡◌}
use Rattle.fx_sequencer.specs.declared.sides.Sides.{Sides}

-- the sent view and the wanted sets are the same in both
pub record SameSentAndSets (old new : Sides) : Type 0 where
  pub sent : new.sent ≡ old.sent
  pub sets : new.wanted.sets ≡ old.wanted.sets
