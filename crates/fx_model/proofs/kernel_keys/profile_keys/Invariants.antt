use Rattle.std.proofs.Common.{◌≡◌, map as each, take}
use Rattle.fx_model.specs.Views.{profile_key}
use Rattle.fx_model.proofs.kernel_keys.profile_keys.Given as goal

abbrev pub invariant-loop-name : goal.invariant-loop-name
invariant-loop-name g l = l.keys.items ≡ each (profile_key g.R.DigestRule.digest_of) (take l.name-index l.profiles)
