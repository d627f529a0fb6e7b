use Rattle.std.proofs.Common.{◌≡◌, ◌++◌, map, take}
use Rattle.fx_selector.specs.Canonical.{canonical_text, between}
use Rattle.fx_selector.specs.Nodes.{tree}
use Rattle.fx_selector.proofs.canonical.+canonical.Given as goal

abbrev pub invariant-write_joined-loop-place : goal.invariant-write_joined-loop-place
invariant-write_joined-loop-place l = l.out.items ≡ l.initial.out.items ++ between l.mark (map (λ n. canonical_text (tree n)) (take l.place l.parts))
