use Rattle.std.proofs.Common.{◌≡◌, map, drop}
use Rattle.fx_base.specs.Extended.{filled}
use Rattle.fx_model.specs.Views.{set_entry}
use Rattle.fx_wanted.proofs.sets.put_sets.Given as goal

-- with those that are left put in, all of them are
abbrev pub invariant-loop-set : goal.invariant-loop-set
invariant-loop-set g l =
    filled l.sets (map (set_entry g.R.DigestRule.digest_of l.resources) (drop l.set-index l.uses))
    ≡ filled l.fn.sets (map (set_entry g.R.DigestRule.digest_of l.resources) l.uses)
