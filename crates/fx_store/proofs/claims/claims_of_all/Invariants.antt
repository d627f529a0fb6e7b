use Rattle.std.proofs.Common.{◌≡◌, ◌++◌, drop}
use Rattle.std.specs.List.{flat_map}
use Rattle.std.specs.FinMap as finite
use Rattle.fx_model.specs.Steps.{record_claims}
use Rattle.fx_store.proofs.claims.claims_of_all.Given as goal

-- with those of the keys that are left behind them, the claims are whole
abbrev pub invariant-loop-key : goal.invariant-loop-key
invariant-loop-key g l =
    l.claims.items ++ flat_map (λ k. record_claims g.R.DigestRule.digest_of l.node k (finite.get l.records k)) (drop l.key-index l.keys)
    ≡ flat_map (λ k. record_claims g.R.DigestRule.digest_of l.node k (finite.get l.records k)) l.keys
