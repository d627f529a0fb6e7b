-- The sets that the wanted rules use: what holds of all of them holds of those of each policy, profile and rule, and back.
use Rattle.std.proofs.Common.{ℕ, List, [], ◌∷◌, ◌++◌, map, Option, Some, None}
use Rattle.std.specs.List.{AllByRecursion, flat_map}
use Rattle.std.specs.FinMap as maps
use Rattle.fx_base.specs.declared.net.Proto.{Proto}
use Rattle.fx_selector.specs.Tree.{Tree}
use Rattle.fx_model.specs.declared.ids.PolicyId.{PolicyId}
use Rattle.fx_model.specs.declared.policy.Policy.{Policy}
use Rattle.fx_model.specs.declared.resources.Profile.{Profile}
use Rattle.fx_model.specs.declared.resources.Resources.{Resources}
use Rattle.fx_model.specs.declared.rules.PortSpec.{PortSpec}
use Rattle.fx_model.specs.declared.rules.PortSpec.TheVariants.{Number, Named}
use Rattle.fx_model.specs.declared.rules.Rule.{Rule}
use Rattle.fx_model.specs.declared.rules.Side.{Side}
use Rattle.fx_model.specs.declared.set_use.SetUse.{SetUse}
use Rattle.fx_model.specs.Active.{active_policies}
use Rattle.fx_model.specs.Sets.{nets_use, ports_use, ports_protocol, selector_or_all, selector_uses, port_uses, side_uses, rule_uses, rules_uses, policy_uses}
use Rattle.fx_model.specs.Views.{active_profiles, uses_if_there, uses_of_profile, wanted_uses}

module _ {A : Type 0} (P : A → Type 0) where
  pub all-append : (xs ys : List A) → AllByRecursion P xs → AllByRecursion P ys → AllByRecursion P (xs ++ ys)
  all-append [] ys g h = h
  all-append (x ∷ xs) ys g h = (g.0, all-append xs ys g.1 h)

  pub all-first : (xs ys : List A) → AllByRecursion P (xs ++ ys) → AllByRecursion P xs
  all-first [] ys h = tt
  all-first (x ∷ xs) ys h = (h.0, all-first xs ys h.1)

  pub all-second : (xs ys : List A) → AllByRecursion P (xs ++ ys) → AllByRecursion P ys
  all-second [] ys h = h
  all-second (x ∷ xs) ys h = all-second xs ys h.1

  module _ {B : Type 0} (f : B → List A) where
    pub each-flat_map : (xs : List B) → AllByRecursion P (flat_map f xs) → AllByRecursion (λ x. AllByRecursion P (f x)) xs
    each-flat_map [] h = tt
    each-flat_map (x ∷ xs) h = (all-first (f x) (flat_map f xs) h, each-flat_map xs (all-second (f x) (flat_map f xs) h))

    pub all-flat_map : (xs : List B) → AllByRecursion (λ x. AllByRecursion P (f x)) xs → AllByRecursion P (flat_map f xs)
    all-flat_map [] h = tt
    all-flat_map (x ∷ xs) h = all-append (f x) (flat_map f xs) h.0 (all-flat_map xs h.1)

  module _ {B : Type 0} (f : B → A) where
    pub each-map : (xs : List B) → AllByRecursion P (map f xs) → AllByRecursion (λ x. P (f x)) xs
    each-map [] h = tt
    each-map (x ∷ xs) h = (h.0, each-map xs h.1)

    pub all-map : (xs : List B) → AllByRecursion (λ x. P (f x)) xs → AllByRecursion P (map f xs)
    all-map [] h = tt
    all-map (x ∷ xs) h = (h.0, all-map xs h.1)

-- ---- of all wanted uses, those of each policy and each profile

module _ (P : SetUse → Type 0) (R : Resources) (all : AllByRecursion P (wanted_uses R)) where
  pub uses-policies : AllByRecursion (λ x. AllByRecursion P (policy_uses x.1)) (active_policies R)
  uses-policies =
      each-flat_map P (λ (x : PolicyId × Policy). policy_uses x.1) (active_policies R)
      (all-first P (flat_map (λ (x : PolicyId × Policy). policy_uses x.1) (active_policies R)) (flat_map (uses_of_profile R) (active_profiles R)) all)

  pub uses-profiles : AllByRecursion (λ n. AllByRecursion P (uses_of_profile R n)) (active_profiles R)
  uses-profiles =
      each-flat_map P (uses_of_profile R) (active_profiles R)
      (all-second P (flat_map (λ (x : PolicyId × Policy). policy_uses x.1) (active_policies R)) (flat_map (uses_of_profile R) (active_profiles R)) all)

-- ---- what holds of each set of nets and each set of ports holds of all uses

module _ (P : SetUse → Type 0) (nets : (t : Tree) → P (nets_use t)) (ports : (p : Proto) (name : List ℕ) (t : Tree) → P (ports_use p name t)) where
  all_selectors : (o : Option Tree) → AllByRecursion P (selector_uses o)
  all_selectors None = tt
  all_selectors (Some t) = (nets t, tt)

  all_ports : (p : Option Proto) (t : Option Tree) (ps : List PortSpec) → AllByRecursion P (flat_map (port_uses p t) ps)
  all_ports p t [] = tt
  all_ports p t (Number r ∷ ps) = all_ports p t ps
  all_ports p t (Named name ∷ ps) = (ports (ports_protocol p) name (selector_or_all t), all_ports p t ps)

  all_side : (p : Option Proto) (s : Side) → AllByRecursion P (side_uses p s)
  all_side p s =
      all-append P (selector_uses s.selector) (selector_uses s.not_selector ++ (flat_map (port_uses p s.selector) s.ports ++ flat_map (port_uses p s.selector) s.not_ports)) (all_selectors s.selector)
      (all-append P (selector_uses s.not_selector) (flat_map (port_uses p s.selector) s.ports ++ flat_map (port_uses p s.selector) s.not_ports) (all_selectors s.not_selector)
      (all-append P (flat_map (port_uses p s.selector) s.ports) (flat_map (port_uses p s.selector) s.not_ports) (all_ports p s.selector s.ports) (all_ports p s.selector s.not_ports)))

  all_rules : (rs : List Rule) → AllByRecursion P (rules_uses rs)
  all_rules [] = tt
  all_rules (r ∷ rs) =
      all-append P (rule_uses r) (rules_uses rs)
      (all-append P (side_uses r.protocol r.source) (side_uses r.protocol r.destination) (all_side r.protocol r.source) (all_side r.protocol r.destination))
      (all_rules rs)

  all_policies : (xs : List (PolicyId × Policy)) → AllByRecursion P (flat_map (λ x. policy_uses x.1) xs)
  all_policies [] = tt
  all_policies (x ∷ xs) =
      all-append P (policy_uses x.1) (flat_map (λ (y : PolicyId × Policy). policy_uses y.1) xs)
      (all-append P (rules_uses x.1.ingress) (rules_uses x.1.egress) (all_rules x.1.ingress) (all_rules x.1.egress))
      (all_policies xs)

  all_there : (o : Option Profile) → AllByRecursion P (uses_if_there o)
  all_there None = tt
  all_there (Some p) = all-append P (rules_uses p.ingress) (rules_uses p.egress) (all_rules p.ingress) (all_rules p.egress)

  all_profiles : (R : Resources) (names : List (List ℕ)) → AllByRecursion P (flat_map (uses_of_profile R) names)
  all_profiles R [] = tt
  all_profiles R (n ∷ names) =
      all-append P (uses_of_profile R n) (flat_map (uses_of_profile R) names) (all_there (maps.get R.profiles n)) (all_profiles R names)

  pub all_wanted : (R : Resources) → AllByRecursion P (wanted_uses R)
  all_wanted R =
      all-append P (flat_map (λ (x : PolicyId × Policy). policy_uses x.1) (active_policies R)) (flat_map (uses_of_profile R) (active_profiles R))
      (all_policies (active_policies R)) (all_profiles R (active_profiles R))
