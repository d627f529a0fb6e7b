use Rattle.std.proofs.Common.{◌≡◌, ◌≤◌, take}
use Rattle.fx_names.specs.Claims.{times}
use Rattle.fx_names.proofs.registry.times.Given as goal

abbrev pub invariant-loop-claim : goal.invariant-loop-claim
invariant-loop-claim l = record {
  bounded : l.count ≤ l.claim-index;
  counted : l.count ≡ times (record { name = l.name; holder = l.holder }) (take l.claim-index l.claims);
}
