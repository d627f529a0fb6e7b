use Rattle.std.proofs.Common.{◌≡◌, map, drop}
use Rattle.fx_base.specs.Extended.{extended}
use Rattle.fx_model.specs.Views.{profile_entry}
use Rattle.fx_wanted.proofs.view.put_profiles.Given as goal

-- with those that are left put in, all of them are
abbrev pub invariant-loop-name : goal.invariant-loop-name
invariant-loop-name g l = extended l.profiles (map (profile_entry g.R.DigestRule.digest_of l.resources) (drop l.name-index l.name-items)) ≡ extended l.fn.profiles (map (profile_entry g.R.DigestRule.digest_of l.resources) l.names)
