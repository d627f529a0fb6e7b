-- When one test implies another.
use Rattle.std.proofs.Common.{◌≡◌, Bool, true, false, ◌||◌, refl}
use Rattle.fx_model.specs.Formed.{implies}

pub implied : (a b : Bool) → b ≡ true → implies a b ≡ true
implied true b e = e
implied false b e = refl

pub implies_either : (a b c : Bool) → implies a c ≡ true → implies b c ≡ true → implies (a || b) c ≡ true
implies_either true b c e f = e
implies_either false b c e f = f
