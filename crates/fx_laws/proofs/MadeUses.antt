-- The sets that formed rules use: each is made of a tree and perhaps a port, and where no claims clash, no two have one name.
use Rattle.std.proofs.Common.{◌≡◌, ℕ, nat_le, Bool, true, false, not, ◌&&◌, ◌||◌, List, [], ◌∷◌, ◌++◌, Option, Some, None, refl, sym, ap, ◌∙◌}
use Rattle.std.proofs.lemmas.Bool.{not-false, or_left, or_right}
use Rattle.std.specs.List.{AllByRecursion, list_all, flat_map}
use Rattle.std.specs.Str.{bytes_eq}
use Rattle.std.specs.FinMap as maps
use Rattle.fx_base.specs.Given.{is_given}
use Rattle.fx_base.specs.Same.{same_bytes, both_pass}
use Rattle.fx_base.specs.declared.kernel_name.KernelName.TheVariants.{Set}
use Rattle.fx_base.specs.declared.net.Proto.{Proto}
use Rattle.fx_selector.specs.Formed.{is_tree}
use Rattle.fx_selector.specs.Tree.{Tree, IsTree, height}
use Rattle.fx_selector.proofs.FormedTrees.{tested_tree}
use Rattle.fx_names.specs.Digests.{Digest}
use Rattle.fx_names.specs.Claims.{same_name, clashes}
use Rattle.fx_names.proofs.ClaimLists.{same_name-refl}
use Rattle.fx_model.specs.declared.ids.PolicyId.{PolicyId}
use Rattle.fx_model.specs.declared.policy.Policy.{Policy}
use Rattle.fx_model.specs.declared.resources.Profile.{Profile}
use Rattle.fx_model.specs.declared.resources.Resources.{Resources}
use Rattle.fx_model.specs.declared.rules.PortSpec.{PortSpec}
use Rattle.fx_model.specs.declared.rules.PortSpec.TheVariants.{Number, Named}
use Rattle.fx_model.specs.declared.rules.Rule.{Rule}
use Rattle.fx_model.specs.declared.rules.Side.{Side}
use Rattle.fx_model.specs.declared.set_use.SetUse.{SetUse}
use Rattle.fx_model.specs.Claims.{set_claim, set_holder, IsClashFree}
use Rattle.fx_model.specs.Criteria.{has_ports}
use Rattle.fx_model.specs.Formed.{implies, has_port_protocol, lists_ports, has_its_protocol, is_formed_port_name, is_formed_port, is_formed_selector, is_formed_side, is_formed_rule, is_formed_profile_rule, is_formed_profile, is_formed_policy, passes}
use Rattle.fx_model.specs.Sets.{ports_protocol, selector_or_all, selector_uses, port_uses, side_uses, rule_uses, rules_uses, policy_uses, profile_uses, use_name}
use Rattle.fx_laws.proofs.OneUse.{Made, OfNets, OfPort, one_use}
use Rattle.fx_laws.proofs.SetsClaimed.{IsClaimed, policy_sets_claimed, profile_sets_claimed}
use Rattle.fx_laws.proofs.Uses.{all-append}

-- ---- what a rule that lists ports has

pub implied : (a b : Bool) → implies a b ≡ true → a ≡ true → b ≡ true
implied true b h g = h
implied false b h g = cc

-- the protocol of a rule is one that has ports where one of its sides lists some
abbrev pub HasPortsIfGiven : Option Proto → List PortSpec → Type 0
HasPortsIfGiven p ps = is_given ps ≡ true → has_port_protocol p ≡ true

pub record PortsAllowed (r : Rule) : Type 0 where
  pub source : HasPortsIfGiven r.protocol r.source.ports
  pub not_source : HasPortsIfGiven r.protocol r.source.not_ports
  pub destination : HasPortsIfGiven r.protocol r.destination.ports
  pub not_destination : HasPortsIfGiven r.protocol r.destination.not_ports

pub ports_allowed : (r : Rule) → has_its_protocol r ≡ true → PortsAllowed r
ports_allowed r h =
    let s = is_given r.source.ports in
    let t = is_given r.source.not_ports in
    let u = is_given r.destination.ports in
    let v = is_given r.destination.not_ports in
    let has : lists_ports r ≡ true → has_port_protocol r.protocol ≡ true = implied (lists_ports r) (has_port_protocol r.protocol) (both_pass _ _ h).0 in
    record {
      source = λ g. has (or_left (s || t) (u || v) (or_left s t g));
      not_source = λ g. has (or_left (s || t) (u || v) (or_right s t g));
      destination = λ g. has (or_right (s || t) (u || v) (or_left u v g));
      not_destination = λ g. has (or_right (s || t) (u || v) (or_right u v g));
    }

-- ---- uses of formed rules are made of trees and ports

has_its_ports : (p : Option Proto) → has_port_protocol p ≡ true → has_ports (ports_protocol p).0 ≡ true
has_its_ports None h = cc
has_its_ports (Some p) h = h

tree_given : (t : Option Tree) → is_formed_selector t ≡ true → IsTree (selector_or_all t)
tree_given None h = tt
tree_given (Some t) h = tested_tree t (both_pass (is_tree t) (nat_le (height t) 139) h).0

made_selector : (t : Option Tree) → is_formed_selector t ≡ true → AllByRecursion Made (selector_uses t)
made_selector None h = tt
made_selector (Some t) h = (OfNets t (tree_given (Some t) h) refl, tt)

made_ports : (p : Option Proto) (t : Option Tree) → is_formed_selector t ≡ true → (ps : List PortSpec) → list_all is_formed_port ps ≡ true → HasPortsIfGiven p ps → AllByRecursion Made (flat_map (port_uses p t) ps)
made_ports p t h [] all has = tt
made_ports p t h (Number r ∷ ps) all has = made_ports p t h ps all (λ _. has refl)
made_ports p t h (Named name ∷ ps) all has =
    let b = both_pass (is_formed_port_name name) (list_all is_formed_port ps) all in
    (OfPort (ports_protocol p) name (selector_or_all t) (has_its_ports p (has refl)) b.0 (tree_given t h) refl, made_ports p t h ps b.1 (λ _. has refl))

made_side : (p : Option Proto) (s : Side) → is_formed_side s ≡ true → HasPortsIfGiven p s.ports → HasPortsIfGiven p s.not_ports → AllByRecursion Made (side_uses p s)
made_side p s formed has have =
    let b = both_pass _ _ formed in
    let selectors = both_pass (is_formed_selector s.selector) (is_formed_selector s.not_selector) b.0 in
    let ports = both_pass (list_all is_formed_port s.ports) (list_all is_formed_port s.not_ports) b.1 in
    let some = flat_map (port_uses p s.selector) s.ports in
    let others = flat_map (port_uses p s.selector) s.not_ports in
    all-append Made (selector_uses s.selector) (selector_uses s.not_selector ++ (some ++ others)) (made_selector s.selector selectors.0)
    (all-append Made (selector_uses s.not_selector) (some ++ others) (made_selector s.not_selector selectors.1)
    (all-append Made some others (made_ports p s.selector selectors.0 s.ports ports.0 has) (made_ports p s.selector selectors.0 s.not_ports ports.1 have)))

made_rule : (r : Rule) → is_formed_rule r ≡ true → AllByRecursion Made (rule_uses r)
made_rule r formed =
    let b = both_pass (has_its_protocol r) (is_formed_side r.source && is_formed_side r.destination) formed in
    let sides = both_pass (is_formed_side r.source) (is_formed_side r.destination) b.1 in
    let allowed = ports_allowed r b.0 in
    all-append Made (side_uses r.protocol r.source) (side_uses r.protocol r.destination)
    (made_side r.protocol r.source sides.0 allowed.source allowed.not_source)
    (made_side r.protocol r.destination sides.1 allowed.destination allowed.not_destination)

made_rules : (rs : List Rule) → list_all is_formed_rule rs ≡ true → AllByRecursion Made (rules_uses rs)
made_rules [] h = tt
made_rules (r ∷ rs) h =
    let b = both_pass (is_formed_rule r) (list_all is_formed_rule rs) h in
    all-append Made (rule_uses r) (rules_uses rs) (made_rule r b.0) (made_rules rs b.1)

-- rules of profiles are formed rules
pub plain_rules : (rs : List Rule) → list_all is_formed_profile_rule rs ≡ true → list_all is_formed_rule rs ≡ true
plain_rules [] h = refl
plain_rules (r ∷ rs) h =
    let b = both_pass (is_formed_profile_rule r) (list_all is_formed_profile_rule rs) h in
    let c = both_pass (is_formed_rule r) (not (passes r.action)) b.0 in
    ap (λ t. t && list_all is_formed_rule rs) c.0 ∙ plain_rules rs b.1

-- ---- uses of the rules of resources

all-both : {A : Type 0} (P Q : A → Type 0) (xs : List A) → AllByRecursion P xs → AllByRecursion Q xs → AllByRecursion (λ x. P x × Q x) xs
all-both P Q [] g h = tt
all-both P Q (x ∷ xs) g h = ((g.0, h.0), all-both P Q xs g.1 h.1)

module _ (dg : Digest) (R : Resources) where
  -- some resource claims the set, and its use is made of a tree and perhaps a port
  abbrev pub IsUsed : SetUse → Type 0
  IsUsed u = IsClaimed dg R u × Made u

  pub used_policy : (id : PolicyId) (p : Policy) → is_formed_policy p ≡ true → maps.get R.policies id ≡ Some p → AllByRecursion IsUsed (policy_uses p)
  used_policy id p formed at =
      let b = both_pass (list_all is_formed_rule p.ingress) (list_all is_formed_rule p.egress) formed in
      all-both (IsClaimed dg R) Made (policy_uses p) (policy_sets_claimed dg R id p at)
      (all-append Made (rules_uses p.ingress) (rules_uses p.egress) (made_rules p.ingress b.0) (made_rules p.egress b.1))

  pub used_profile : (name : List ℕ) (p : Profile) → is_formed_profile p ≡ true → maps.get R.profiles name ≡ Some p → AllByRecursion IsUsed (profile_uses p)
  used_profile name p formed at =
      let b = both_pass (list_all is_formed_profile_rule p.ingress) (list_all is_formed_profile_rule p.egress) formed in
      all-both (IsClaimed dg R) Made (profile_uses p) (profile_sets_claimed dg R name p at)
      (all-append Made (rules_uses p.ingress) (rules_uses p.egress) (made_rules p.ingress (plain_rules p.ingress b.0)) (made_rules p.egress (plain_rules p.egress b.1)))

  -- uses with one name have one holder
  one_holder : IsClashFree dg R → (u v : SetUse) → IsClaimed dg R u → IsClaimed dg R v → use_name dg u ≡ use_name dg v → set_holder u ≡ set_holder v
  one_holder free u v p q names =
      let c = set_claim dg u in
      let d = set_claim dg v in
      let sets : c.name ≡ d.name = ap Set names in
      let same : same_name c.name d.name ≡ true = ap (same_name c.name) (sym sets) ∙ same_name-refl c.name in
      let apart : clashes c d ≡ false = free c d p q in
      let holders : not (bytes_eq c.holder d.holder) ≡ false = sym (ap (λ t. t && not (bytes_eq c.holder d.holder)) same) ∙ apart in
      same_bytes c.holder d.holder (not-false (bytes_eq c.holder d.holder) holders)

  -- so they are one use
  pub uses_apart : IsClashFree dg R → (u v : SetUse) → IsUsed u → IsUsed v → use_name dg u ≡ use_name dg v → u ≡ v
  uses_apart free u v p q names = one_use u v p.1 q.1 (one_holder free u v p.0 q.0 names)
