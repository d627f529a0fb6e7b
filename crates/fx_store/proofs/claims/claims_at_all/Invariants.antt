use Rattle.std.proofs.Common.{◌≡◌, ◌++◌, drop}
use Rattle.std.specs.List.{flat_map}
use Rattle.fx_model.specs.Claims.{claims_at}
use Rattle.fx_store.proofs.claims.claims_at_all.Given as goal

-- with those at the keys that are left behind them, the claims are whole
abbrev pub invariant-loop-key : goal.invariant-loop-key
invariant-loop-key g l = l.claims.items ++ flat_map (claims_at g.R.DigestRule.digest_of l.resources) (drop l.key-index l.keys) ≡ flat_map (claims_at g.R.DigestRule.digest_of l.resources) l.keys
