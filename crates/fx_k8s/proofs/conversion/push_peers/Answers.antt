use Rattle.std.proofs.Common.{Some}
use Rattle.fx_k8s.specs.Conversion.{peer_rules}
use Rattle.fx_k8s.proofs.Pushed.{one_more}
use Rattle.fx_k8s.proofs.conversion.push_peers.Goals as goal

pub loop-peer-preserved : goal.loop-peer-preserved
loop-peer-preserved c =
    one_more (λ q. peer_rules c.args.place.now.direction c.args.place.now.namespace.now c.args.entries.now (Some q)) c.args.made.now.items c.loop-peer.made.items c.push_peer.new.made.items c.args.peers.now c.loop-peer.peer-index c.peer-item.result c.peer-item.result c.loop-peer-test.true c.peer-item.is c.loop-peer.invariant c.in_ok-push_peer.ensures
