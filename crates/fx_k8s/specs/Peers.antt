-- A peer of a rule, as Kubernetes' API reference has it (`networking.k8s.io/v1` NetworkPolicyPeer and IPBlock): addresses by
-- `ipBlock`, or pods by `podSelector` and `namespaceSelector`. Addresses stand beside no selector. Members that aren't named here are
-- ignored.
use Rattle.std.specs.Prelude.{Bool, true, false, ◌&&◌, Ok, Err, codes}
use Rattle.std.specs.List.{filter_map}
use Rattle.fx_fields.specs.declared.fault.ReadFault.TheVariants.{MissingField, BlockWithSelector}
use Rattle.fx_k8s.specs.declared.peers.IpBlock.{IpBlock}
use Rattle.fx_k8s.specs.declared.peers.Peer.{Peer}
use Rattle.fx_k8s.specs.declared.peers.Peer.TheVariants.{Block, Pods}
use Rattle.fx_fields.specs.Fields.{◌>>=◌, Reader, is_absent, required, optional, object_at, items}
use Rattle.fx_fields.specs.Nets.{ipv4}
use Rattle.fx_fields.specs.Values.{net}
use Rattle.fx_k8s.specs.LabelSelectors.{label_selector}

-- ---- addresses

unfoldable pub block_fields : Reader IpBlock
block_fields path d = do
  cidr ← required net path (codes "cidr") d
  except ← items net path (codes "except") d
  Ok (record { cidr = cidr; except = filter_map ipv4 except })

unfoldable pub ip_block : Reader IpBlock
ip_block path d = object_at path d >>= block_fields path

unfoldable pub block_peer : Reader Peer
block_peer path d = required ip_block path (codes "ipBlock") d >>= λ block. Ok (Block block)

-- ---- pods

unfoldable pub pods_peer : Reader Peer
pods_peer path d = do
  pods ← optional label_selector path (codes "podSelector") d
  namespaces ← optional label_selector path (codes "namespaceSelector") d
  Ok (Pods (record { pods = pods; namespaces = namespaces }))

-- ---- either

-- by whether no addresses are given, and no selector
abbrev pub peer_by : Bool → Bool → Reader Peer
peer_by true true path d = Err (MissingField path)
peer_by true false path d = pods_peer path d
peer_by false true path d = block_peer path d
peer_by false false path d = Err (BlockWithSelector path)

abbrev pub peer_fields : Reader Peer
peer_fields path d =
    peer_by (is_absent (codes "ipBlock") d) (is_absent (codes "podSelector") d && is_absent (codes "namespaceSelector") d) path d

unfoldable pub peer : Reader Peer
peer path d = object_at path d >>= peer_fields path
