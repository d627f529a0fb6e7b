use Rattle.std.proofs.Common.{◌≡◌, ◌++◌, map}
use Rattle.fx_model.specs.Claims.{set_claim}
use Rattle.fx_store.proofs.claims.push_sets.Given as goal

abbrev pub invariant-loop-set : goal.invariant-loop-set
invariant-loop-set g l = l.claims.items ≡ l.fn.claims.items ++ map (set_claim g.R.DigestRule.digest_of) l.yielded
