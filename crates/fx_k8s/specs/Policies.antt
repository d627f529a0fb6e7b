-- A NetworkPolicy, as Kubernetes' API reference has it (`networking.k8s.io/v1`), field by field, and the update that a put of one is.
-- Members that aren't named here are ignored.
use Rattle.std.specs.Prelude.{ℕ, List, true, Result, Ok, codes}
use Rattle.serde_json.specs.Data.{Data}
use Rattle.fx_base.specs.Given.{is_given}
use Rattle.fx_model.specs.declared.resources.Item.TheVariants as item
use Rattle.fx_model.specs.declared.resources.Update.{Update}
use Rattle.fx_model.specs.declared.resources.Update.TheVariants as update
use Rattle.fx_fields.specs.declared.fault.ReadFault.{ReadFault}
use Rattle.fx_fields.specs.declared.policy_fields.PolicyType.{PolicyType}
use Rattle.fx_fields.specs.declared.policy_fields.PolicyType.TheVariants.{Ingress, Egress}
use Rattle.fx_k8s.specs.declared.label_selectors.LabelSelector.{LabelSelector}
use Rattle.fx_k8s.specs.declared.policies.NetworkPolicy.{NetworkPolicy}
use Rattle.fx_k8s.specs.declared.policy_rules.PolicyRule.{PolicyRule}
use Rattle.fx_fields.specs.Fields.{◌>>=◌, Reader, defaulted, section, items}
use Rattle.fx_fields.specs.Names.{namespaced_name_in}
use Rattle.fx_fields.specs.PolicyFields.{policy_type, directions_of}
use Rattle.fx_json.specs.Kubernetes.{kubernetes_policy_key}
use Rattle.fx_k8s.specs.LabelSelectors.{label_selector, any_labels}
use Rattle.fx_k8s.specs.PolicyRules.{policy_rule}
use Rattle.fx_k8s.specs.Conversion.{converted_policy}

-- the member that lists the rules of a direction
abbrev pub rules_key : PolicyType → List ℕ
rules_key Ingress = codes "ingress"
rules_key Egress = codes "egress"

abbrev pub rules_at : PolicyType → Reader (List PolicyRule)
rules_at direction path spec = items (policy_rule direction) path (rules_key direction) spec

-- The directions are those that are listed. Where none is, they are ingress, and egress if there are rules for it.
unfoldable pub policy_of : LabelSelector → List PolicyType → List PolicyRule → List PolicyRule → NetworkPolicy
policy_of pods types ingress egress =
    let on = directions_of types true (is_given egress) in
    record {
      pods = pods;
      on_ingress = on.on_ingress;
      on_egress = on.on_egress;
      ingress = ingress;
      egress = egress;
    }

-- all pods, where no selector is given
abbrev pub selected_at : Reader LabelSelector
selected_at path spec = defaulted any_labels label_selector path (codes "podSelector") spec

-- the policy of these pods
unfoldable pub with_rules : LabelSelector → Reader NetworkPolicy
with_rules pods path spec = do
  types ← items policy_type path (codes "policyTypes") spec
  ingress ← rules_at Ingress path spec
  egress ← rules_at Egress path spec
  Ok (policy_of pods types ingress egress)

unfoldable pub network_policy : Reader NetworkPolicy
network_policy path spec = do
  pods ← selected_at path spec
  with_rules pods path spec

unfoldable pub policy_in : Data → Result NetworkPolicy ReadFault
policy_in d = do
  spec ← section (codes "spec") (codes "spec") d
  network_policy (codes "spec") spec

unfoldable pub policy_put : Data → Result Update ReadFault
policy_put d = do
  named ← namespaced_name_in d
  policy ← policy_in d
  Ok (update.Put (kubernetes_policy_key named) (item.Policy (converted_policy named.ns policy)))
