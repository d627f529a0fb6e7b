use Rattle.std.proofs.Common.{◌≡◌, ◌++◌, drop}
use Rattle.std.specs.List.{filter_map}
use Rattle.fx_services.proofs.slices.all_ports.Given as goal

abbrev pub invariant-loop-entry : goal.invariant-loop-entry
invariant-loop-entry l = filter_map (λ port. port) l.entries ≡ l.all.items ++ filter_map (λ port. port) (drop l.entry-index l.entries)
