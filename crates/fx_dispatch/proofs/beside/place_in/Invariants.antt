use Rattle.std.proofs.Common.{◌≡◌, ◌≤◌, ◌+◌, ◌-◌, length, drop}
use Rattle.fx_dispatch.specs.Beside.{place_in}
use Rattle.fx_dispatch.proofs.beside.place_in.Given as goal

-- those that were passed are below
abbrev pub invariant-loop-place : goal.invariant-loop-place
invariant-loop-place l = record {
  within : l.place ≤ length l.all;
  passed : l.place + place_in l.name (drop l.place l.all) ≡ place_in l.name l.all;
}

abbrev pub decreases-loop-place : goal.decreases-loop-place
decreases-loop-place l = length l.all - l.place
