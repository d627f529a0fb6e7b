use Rattle.std.proofs.Common.{◌≡◌, ◌++◌, Some, take}
use Rattle.std.specs.List.{flat_map}
use Rattle.fx_k8s.specs.Conversion.{peer_rules}
use Rattle.fx_k8s.proofs.conversion.push_peers.Given as goal

abbrev pub invariant-loop-peer : goal.invariant-loop-peer
invariant-loop-peer l =
    l.made.items ≡ l.fn.made.items ++ flat_map (λ q. peer_rules l.place.direction l.place.namespace.now l.entries (Some q)) (take l.peer-index l.peers)
