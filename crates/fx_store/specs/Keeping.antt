-- What a store keeps.
use Rattle.fx_names.specs.Digests.{Digest}
use Rattle.fx_names.specs.Holding.{HoldsClaims}
use Rattle.fx_model.specs.Claims.{all_claims}
use Rattle.fx_store.specs.declared.store.Store.{Store}

-- the registry keeps what the resources claim
abbrev pub KeepsClaims : Digest → Store → Type 0
KeepsClaims dg s = HoldsClaims s.registry (all_claims dg s.resources)
