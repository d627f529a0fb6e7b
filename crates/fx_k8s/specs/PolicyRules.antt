-- A rule of a policy, as Kubernetes' API reference has it (`networking.k8s.io/v1` NetworkPolicyIngressRule and
-- NetworkPolicyEgressRule): peers and port entries. Members that aren't named here are ignored.
use Rattle.std.specs.Prelude.{ℕ, List, Ok, codes}
use Rattle.fx_fields.specs.declared.policy_fields.PolicyType.{PolicyType}
use Rattle.fx_fields.specs.declared.policy_fields.PolicyType.TheVariants.{Ingress, Egress}
use Rattle.fx_k8s.specs.declared.policy_rules.PolicyRule.{PolicyRule}
use Rattle.fx_fields.specs.Fields.{◌>>=◌, Reader, object_at, items}
use Rattle.fx_k8s.specs.Peers.{peer}
use Rattle.fx_k8s.specs.Entries.{port_entry}

-- the member that lists the peers
abbrev pub peers_key : PolicyType → List ℕ
peers_key Ingress = codes "from"
peers_key Egress = codes "to"

unfoldable pub rule_fields : PolicyType → Reader PolicyRule
rule_fields direction path d = do
  peers ← items peer path (peers_key direction) d
  ports ← items port_entry path (codes "ports") d
  Ok (record { peers = peers; ports = ports })

unfoldable pub policy_rule : PolicyType → Reader PolicyRule
policy_rule direction path d = object_at path d >>= rule_fields direction path
