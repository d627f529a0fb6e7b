use Rattle.std.proofs.Common.{◌≡◌, filter, not}
use Rattle.fx_scanner.specs.Uses.{is_among}
use Rattle.fx_scanner.proofs.used.split.Given as goal

-- those that came are parted
abbrev pub invariant-loop-set : goal.invariant-loop-set
invariant-loop-set l = record {
  gone : l.gone.items ≡ filter (λ u. not (is_among l.after u)) l.yielded;
  kept : l.kept.items ≡ filter (λ u. is_among l.after u) l.yielded;
}
