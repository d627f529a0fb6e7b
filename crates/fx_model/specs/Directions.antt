-- The direction of a packet, as a workload sees it.

pub data Direction : Type 0 where
  Ingress Egress : Direction
