use Rattle.std.proofs.Common.{◌≡◌, ◌++◌, drop}
use Rattle.std.specs.List.{flat_map}
use Rattle.fx_model.specs.Claims.{profile_chains}
use Rattle.fx_store.proofs.claims.push_listed.Given as goal

-- with those of the names that are left behind them, the claims are whole
abbrev pub invariant-loop-name : goal.invariant-loop-name
invariant-loop-name g l = l.claims.items ++ flat_map (profile_chains g.R.DigestRule.digest_of) (drop l.name-index l.names) ≡ l.fn.claims.items ++ flat_map (profile_chains g.R.DigestRule.digest_of) l.names
