use Rattle.std.proofs.Common.{◌≡◌, ◌++◌, drop}
use Rattle.std.specs.List.{flat_map}
use Rattle.fx_services.proofs.slices.all_addresses.Given as goal

abbrev pub invariant-loop-addresses : goal.invariant-loop-addresses
invariant-loop-addresses l =
    flat_map (λ addresses. addresses) l.endpoints ≡ l.all.items ++ flat_map (λ addresses. addresses) (drop l.addresses-index l.endpoints)
