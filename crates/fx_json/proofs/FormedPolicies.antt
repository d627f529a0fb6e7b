-- Each tier and each policy that is read may be taken in.
use Rattle.std.proofs.Common.{◌≡◌, ℕ, List, Bool, true, false, IfOk, refl}
use Rattle.std.specs.Prelude.{codes}
use Rattle.std.specs.List.{list_all}
use Rattle.serde_json.specs.Data.{Data}
use Rattle.fx_selector.specs.Tree.{IsString}
use Rattle.fx_model.specs.declared.rules.Rule.{Rule}
use Rattle.fx_model.specs.declared.policy.Policy.{Policy}
use Rattle.fx_model.specs.declared.resources.Update.{Update}
use Rattle.fx_base.specs.Given.{is_given}
use Rattle.fx_model.specs.Formed.{is_formed_rule, is_formed_policy, is_formed_namespace, is_formed, puts_workload_interface}
use Rattle.fx_model.specs.Steps.{is_change}
use Rattle.fx_fields.specs.Fields.{items, section}
use Rattle.fx_fields.specs.declared.rule_form.RuleForm.{RuleForm}
use Rattle.fx_fields.specs.declared.rule_form.RulePlace.TheVariants.{OfPolicy, OfNamespace}
use Rattle.fx_fields.specs.declared.rule_form.Services.{Services}
use Rattle.fx_json.specs.declared.policies.PolicyRules.{PolicyRules}
use Rattle.fx_fields.specs.Names.{name_in, namespaced_name_in}
use Rattle.fx_fields.specs.Selectors.{global_selector, namespaced_selector}
use Rattle.fx_fields.specs.PolicyFields.{place_of, policy_type, directions_of, flags}
use Rattle.fx_json.specs.Rules.{form_in, rule}
use Rattle.fx_json.specs.Policies.{kept, rules_of, global_policy, namespaced_policy, tier_in, tier_put, global_policy_in, global_policy_put, namespaced_policy_in, namespaced_policy_put}
use Rattle.fx_fields.proofs.Readings.{then-if, read-if, both, items-each}
use Rattle.fx_fields.proofs.NameTexts.{named_in_string}
use Rattle.fx_fields.proofs.SideTrees.{IsPlace}
use Rattle.fx_json.proofs.FormedNames.{named_in-formed}
use Rattle.fx_json.proofs.FormedRules.{policy_rule-formed}

-- an update that may be taken in, and that puts or deletes
abbrev pub IsTakable : Update → Type 0
IsTakable u = (is_formed u ≡ true) × ((node : List ℕ) → puts_workload_interface node u ≡ true) × (is_change u ≡ true)

-- ---- rules

kept-formed : (on : Bool) (rules : List Rule) → list_all is_formed_rule rules ≡ true → list_all is_formed_rule (kept on rules) ≡ true
kept-formed true rules e = e
kept-formed false rules e = refl

abbrev AreFormed : PolicyRules → Type 0
AreFormed r = (list_all is_formed_rule r.ingress ≡ true) × (list_all is_formed_rule r.egress ≡ true)

rules_of-formed : (form : RuleForm) → IsPlace form.place → (path : List ℕ) (d : Data) → IfOk (rules_of form path d) AreFormed
unfolding rules_of
rules_of-formed form stands path d =
    then-if AreFormed (items policy_type path (codes "types") d) _ (λ types _.
    then-if AreFormed (items (rule form) path (codes "ingress") d) _ (λ ingress ingress_read.
    then-if AreFormed (items (rule form) path (codes "egress") d) _ (λ egress egress_read. (
      kept-formed (directions_of types (is_given ingress) (is_given egress)).on_ingress ingress
          (read-if Q (items (rule form) path (codes "ingress") d) ingress (items-each is_formed_rule (rule form) (policy_rule-formed form stands) path (codes "ingress") d) ingress_read),
      kept-formed (directions_of types (is_given ingress) (is_given egress)).on_egress egress
          (read-if Q (items (rule form) path (codes "egress") d) egress (items-each is_formed_rule (rule form) (policy_rule-formed form stands) path (codes "egress") d) egress_read),
    ))))
  where
    Q : List Rule → Type 0
    Q rules = list_all is_formed_rule rules ≡ true

-- ---- policies

abbrev IsFormedPolicy : Policy → Type 0
IsFormedPolicy p = is_formed_policy p ≡ true

global_policy-formed : (services : Services) (path : List ℕ) (d : Data) → IfOk (global_policy services path d) IsFormedPolicy
unfolding global_policy
global_policy-formed services path d =
    then-if IsFormedPolicy (place_of path d) _ (λ place _.
    then-if IsFormedPolicy (global_selector path d) _ (λ selector _.
    then-if IsFormedPolicy (rules_of (form_in OfPolicy services) path d) _ (λ rules rules_read.
    then-if IsFormedPolicy (flags path d) _ (λ unset _.
    let formed : AreFormed rules = read-if AreFormed (rules_of (form_in OfPolicy services) path d) rules (rules_of-formed (form_in OfPolicy services) tt path d) rules_read in
    both (list_all is_formed_rule rules.ingress) (list_all is_formed_rule rules.egress) formed.0 formed.1))))

namespaced_policy-formed : (services : Services) (ns : List ℕ) → IsString ns → (path : List ℕ) (d : Data) → IfOk (namespaced_policy services ns path d) IsFormedPolicy
unfolding namespaced_policy
namespaced_policy-formed services ns string path d =
    then-if IsFormedPolicy (place_of path d) _ (λ place _.
    then-if IsFormedPolicy (namespaced_selector ns path d) _ (λ selector _.
    then-if IsFormedPolicy (rules_of (form_in (OfNamespace ns) services) path d) _ (λ rules rules_read.
    let formed : AreFormed rules = read-if AreFormed (rules_of (form_in (OfNamespace ns) services) path d) rules (rules_of-formed (form_in (OfNamespace ns) services) string path d) rules_read in
    both (list_all is_formed_rule rules.ingress) (list_all is_formed_rule rules.egress) formed.0 formed.1)))

-- ---- puts

pub tier_put-formed : (d : Data) → IfOk (tier_put d) IsTakable
unfolding tier_put
tier_put-formed d =
    then-if IsTakable (name_in d) _ (λ name _.
    then-if IsTakable (tier_in d) _ (λ tier _. (refl, λ node. refl, refl)))

global_policy_in-formed : (services : Services) (d : Data) → IfOk (global_policy_in services d) IsFormedPolicy
unfolding global_policy_in
global_policy_in-formed services d =
    then-if IsFormedPolicy (section (codes "spec") (codes "spec") d) _ (λ spec _. global_policy-formed services (codes "spec") spec)

pub global_policy_put-formed : (services : Services) (d : Data) → IfOk (global_policy_put services d) IsTakable
unfolding global_policy_put
global_policy_put-formed services d =
    then-if IsTakable (name_in d) _ (λ name _.
    then-if IsTakable (global_policy_in services d) _ (λ policy policy_read.
    (read-if IsFormedPolicy (global_policy_in services d) policy (global_policy_in-formed services d) policy_read, λ node. refl, refl)))

namespaced_policy_in-formed : (services : Services) (ns : List ℕ) → IsString ns → (d : Data) → IfOk (namespaced_policy_in services ns d) IsFormedPolicy
unfolding namespaced_policy_in
namespaced_policy_in-formed services ns string d =
    then-if IsFormedPolicy (section (codes "spec") (codes "spec") d) _ (λ spec _. namespaced_policy-formed services ns string (codes "spec") spec)

pub namespaced_policy_put-formed : (services : Services) (d : Data) → IfOk (namespaced_policy_put services d) IsTakable
unfolding namespaced_policy_put
namespaced_policy_put-formed services d =
    then-if IsTakable (namespaced_name_in d) _ (λ named named_read.
    then-if IsTakable (namespaced_policy_in services named.ns d) _ (λ policy policy_read. (
      both (is_formed_namespace named.ns) (is_formed_policy policy)
          (named_in-formed d named named_read)
          (read-if IsFormedPolicy (namespaced_policy_in services named.ns d) policy (namespaced_policy_in-formed services named.ns (named_in_string d named named_read) d) policy_read),
      λ node. refl,
      refl,
    )))
