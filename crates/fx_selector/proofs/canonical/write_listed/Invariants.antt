use Rattle.std.proofs.Common.{◌≡◌, ◌++◌, [], ◌∷◌, map, take}
use Rattle.fx_selector.specs.Canonical.{between, quoted}
use Rattle.fx_selector.proofs.canonical.write_listed.Given as goal

abbrev pub invariant-loop-place : goal.invariant-loop-place
invariant-loop-place l = l.out.items ≡ l.initial.out.items ++ between (44 ∷ 32 ∷ []) (map quoted (take l.place l.values))
