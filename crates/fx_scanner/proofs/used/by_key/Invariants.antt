use Rattle.std.proofs.Common.{◌≡◌, map, drop}
use Rattle.fx_base.specs.Extended.{filled}
use Rattle.fx_scanner.specs.Uses.{by_key, key_entry}
use Rattle.fx_scanner.proofs.used.by_key.Given as goal

-- with those that are left put in, all of them are
abbrev pub invariant-loop-set : goal.invariant-loop-set
invariant-loop-set l = filled l.index (map key_entry (drop l.set-index l.uses)) ≡ by_key l.uses
