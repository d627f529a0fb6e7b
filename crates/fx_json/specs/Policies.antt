-- A tier and a policy, field by field in the order of Calico's resource reference (`projectcalico.org/v3`, Tier,
-- GlobalNetworkPolicy and NetworkPolicy). Members that aren't named here are ignored.
use Rattle.std.specs.Prelude.{ℕ, List, [], Bool, true, false, Result, Ok, codes}
use Rattle.serde_json.specs.Data.{Data}
use Rattle.fx_selector.specs.Tree.{Tree}
use Rattle.fx_model.specs.declared.ids.Key.{Key}
use Rattle.fx_model.specs.declared.ids.Key.TheVariants as key
use Rattle.fx_model.specs.declared.ids.PolicyId.TheVariants as policy_id
use Rattle.fx_model.specs.declared.rules.Rule.{Rule}
use Rattle.fx_model.specs.declared.policy.Policy.{Policy}
use Rattle.fx_model.specs.declared.policy.Tier.{Tier}
use Rattle.fx_model.specs.declared.resources.Item.TheVariants as item
use Rattle.fx_model.specs.declared.resources.Update.{Update}
use Rattle.fx_model.specs.declared.resources.Update.TheVariants as update
use Rattle.fx_base.specs.Given.{is_given}
use Rattle.fx_fields.specs.declared.fault.ReadFault.{ReadFault}
use Rattle.fx_fields.specs.declared.rule_form.RuleForm.{RuleForm}
use Rattle.fx_fields.specs.declared.rule_form.RulePlace.TheVariants.{OfPolicy, OfNamespace}
use Rattle.fx_fields.specs.declared.rule_form.Services.{Services}
use Rattle.fx_fields.specs.declared.policy_fields.Directions.{Directions}
use Rattle.fx_fields.specs.declared.policy_fields.TierPlace.{TierPlace}
use Rattle.fx_fields.specs.declared.names.NamespacedName.{NamespacedName}
use Rattle.fx_fields.specs.Fields.{◌>>=◌, Reader, defaulted, optional, section, items}
use Rattle.fx_fields.specs.Names.{name_in, namespaced_name_in}
use Rattle.fx_fields.specs.PolicyFields.{order, default_action, place_of, flags, policy_type, directions_of}
use Rattle.fx_fields.specs.Selectors.{global_selector, namespaced_selector}
use Rattle.fx_json.specs.declared.policies.PolicyRules.{PolicyRules}
use Rattle.fx_json.specs.Rules.{form_in, rule}

-- ---- tiers

-- the tier that `spec` holds
unfoldable pub tier_of : Reader Tier
tier_of path spec = do
  o ← optional order path (codes "order") spec
  p ← defaulted false default_action path (codes "defaultAction") spec
  Ok (record { order = o; pass_at_end = p })

-- ---- rules

-- the rules of a direction that is off are dropped
abbrev pub kept : Bool → List Rule → List Rule
kept true rules = rules
kept false rules = []

abbrev pub kept_rules : Directions → List Rule → List Rule → PolicyRules
kept_rules on ingress egress = record {
  on_ingress = on.on_ingress;
  on_egress = on.on_egress;
  ingress = kept on.on_ingress ingress;
  egress = kept on.on_egress egress;
}

unfoldable pub rules_of : RuleForm → Reader PolicyRules
rules_of form path spec = do
  types ← items policy_type path (codes "types") spec
  ingress ← items (rule form) path (codes "ingress") spec
  egress ← items (rule form) path (codes "egress") spec
  Ok (kept_rules (directions_of types (is_given ingress) (is_given egress)) ingress egress)

-- ---- policies

abbrev pub policy_of : TierPlace → Tree → PolicyRules → Policy
policy_of place selector rules = record {
  tier = place.tier;
  order = place.order;
  selector = selector;
  on_ingress = rules.on_ingress;
  on_egress = rules.on_egress;
  ingress = rules.ingress;
  egress = rules.egress;
}

-- the GlobalNetworkPolicy that `spec` holds
unfoldable pub global_policy : Services → Reader Policy
global_policy services path spec = do
  place ← place_of path spec
  selector ← global_selector path spec
  rules ← rules_of (form_in OfPolicy services) path spec
  _ ← flags path spec
  Ok (policy_of place selector rules)

-- the NetworkPolicy of this namespace that `spec` holds
unfoldable pub namespaced_policy : Services → List ℕ → Reader Policy
namespaced_policy services namespace path spec = do
  place ← place_of path spec
  selector ← namespaced_selector namespace path spec
  rules ← rules_of (form_in (OfNamespace namespace) services) path spec
  Ok (policy_of place selector rules)

-- ---- puts

unfoldable pub tier_in : Data → Result Tier ReadFault
tier_in d = do
  spec ← section (codes "spec") (codes "spec") d
  tier_of (codes "spec") spec

unfoldable pub tier_put : Data → Result Update ReadFault
tier_put d = do
  name ← name_in d
  tier ← tier_in d
  Ok (update.Put (key.Tier name) (item.Tier tier))

abbrev pub global_key : List ℕ → Key
global_key name = key.Policy (policy_id.Global name)

unfoldable pub global_policy_in : Services → Data → Result Policy ReadFault
global_policy_in services d = do
  spec ← section (codes "spec") (codes "spec") d
  global_policy services (codes "spec") spec

unfoldable pub global_policy_put : Services → Data → Result Update ReadFault
global_policy_put services d = do
  name ← name_in d
  policy ← global_policy_in services d
  Ok (update.Put (global_key name) (item.Policy policy))

abbrev pub namespaced_key : NamespacedName → Key
namespaced_key named = key.Policy (policy_id.Namespaced named.ns named.name)

unfoldable pub namespaced_policy_in : Services → List ℕ → Data → Result Policy ReadFault
namespaced_policy_in services namespace d = do
  spec ← section (codes "spec") (codes "spec") d
  namespaced_policy services namespace (codes "spec") spec

unfoldable pub namespaced_policy_put : Services → Data → Result Update ReadFault
namespaced_policy_put services d = do
  named ← namespaced_name_in d
  policy ← namespaced_policy_in services named.ns d
  Ok (update.Put (namespaced_key named) (item.Policy policy))
