-- The uses of rules are formed.
use Rattle.std.proofs.Common.{List, [], ◌∷◌, ◌++◌, Option, Some, None, refl}
use Rattle.std.specs.List.{AllByRecursion, flat_map}
use Rattle.fx_base.specs.declared.net.Proto.{Proto}
use Rattle.fx_selector.specs.Tree.{Tree}
use Rattle.fx_model.specs.Sets.{selector_uses, port_uses, side_uses, rule_uses, rules_uses, IsUse}
use Rattle.fx_model.specs.Views.{uses_if_there}
use Rattle.fx_model.specs.declared.policy.Policy.{Policy}
use Rattle.fx_model.specs.declared.resources.Profile.{Profile}
use Rattle.fx_model.specs.declared.rules.PortSpec.{PortSpec}
use Rattle.fx_model.specs.declared.rules.PortSpec.TheVariants.{Number, Named}
use Rattle.fx_model.specs.declared.rules.Rule.{Rule}
use Rattle.fx_model.specs.declared.rules.Side.{Side}
use Rattle.fx_scanner.specs.Scanned.{uses_of_policy}

pub all_both : {A : Type 0} (P : A → Type 0) (xs ys : List A) → AllByRecursion P xs → AllByRecursion P ys → AllByRecursion P (xs ++ ys)
all_both P [] ys g h = h
all_both P (x ∷ xs) ys g h = (g.0, all_both P xs ys g.1 h)

pub all_flat : {A B : Type 0} (P : B → Type 0) (f : A → List B) (xs : List A) → AllByRecursion (λ x. AllByRecursion P (f x)) xs → AllByRecursion P (flat_map f xs)
all_flat P f [] h = tt
all_flat P f (x ∷ xs) h = all_both P (f x) (flat_map f xs) h.0 (all_flat P f xs h.1)

each_of : {A B : Type 0} (P : B → Type 0) (f : A → List B) → ((x : A) → AllByRecursion P (f x)) → (xs : List A) → AllByRecursion P (flat_map f xs)
each_of P f h [] = tt
each_of P f h (x ∷ xs) = all_both P (f x) (flat_map f xs) (h x) (each_of P f h xs)

of_selector : (t : Option Tree) → AllByRecursion IsUse (selector_uses t)
of_selector None = tt
of_selector (Some t) = (refl, tt)

of_port : (p : Option Proto) (t : Option Tree) (port : PortSpec) → AllByRecursion IsUse (port_uses p t port)
of_port p t (Number range) = tt
of_port p t (Named name) = (refl, tt)

of_side : (p : Option Proto) (s : Side) → AllByRecursion IsUse (side_uses p s)
of_side p s =
    all_both IsUse (selector_uses s.selector) (selector_uses s.not_selector ++ (flat_map (port_uses p s.selector) s.ports ++ flat_map (port_uses p s.selector) s.not_ports)) (of_selector s.selector)
    (all_both IsUse (selector_uses s.not_selector) (flat_map (port_uses p s.selector) s.ports ++ flat_map (port_uses p s.selector) s.not_ports) (of_selector s.not_selector)
    (all_both IsUse (flat_map (port_uses p s.selector) s.ports) (flat_map (port_uses p s.selector) s.not_ports)
    (each_of IsUse (port_uses p s.selector) (of_port p s.selector) s.ports)
    (each_of IsUse (port_uses p s.selector) (of_port p s.selector) s.not_ports)))

of_rule : (r : Rule) → AllByRecursion IsUse (rule_uses r)
of_rule r = all_both IsUse (side_uses r.protocol r.source) (side_uses r.protocol r.destination) (of_side r.protocol r.source) (of_side r.protocol r.destination)

of_rules : (rs : List Rule) → AllByRecursion IsUse (rules_uses rs)
of_rules rs = each_of IsUse rule_uses of_rule rs

pub policy_formed : (o : Option Policy) → AllByRecursion IsUse (uses_of_policy o)
policy_formed None = tt
policy_formed (Some p) = all_both IsUse (rules_uses p.ingress) (rules_uses p.egress) (of_rules p.ingress) (of_rules p.egress)

pub profile_formed : (o : Option Profile) → AllByRecursion IsUse (uses_if_there o)
profile_formed None = tt
profile_formed (Some p) = all_both IsUse (rules_uses p.ingress) (rules_uses p.egress) (of_rules p.ingress) (of_rules p.egress)
