-- Nothing is named that isn't there: what the kernel asks of tables by iptables(8) and ipset(8), and what it asks of a view.
use Rattle.std.specs.Prelude.{◌≡◌, ℕ, List, [], ◌∷◌, ◌++◌, true, Option, Some, None}
use Rattle.std.specs.List.{AllByRecursion, flat_map}
use Rattle.std.specs.Ordering.{nat_cmp}
use Rattle.std.specs.Cmp.Lexicographic.{slice_cmp}
use Rattle.std.specs.FinMap as maps
use Rattle.fx_base.specs.SetName.{kind_of}
use Rattle.fx_base.specs.declared.set_name.SetKind.{SetKind}
use Rattle.fx_base.specs.declared.set_name.SetKind.TheVariants.{Nets, Ports}
use Rattle.fx_model.specs.declared.view.View.{View}
use Rattle.fx_model.specs.declared.view.ViewTier.{ViewTier}
use Rattle.fx_model.specs.declared.view.ViewEndpoint.{ViewEndpoint}
use Rattle.fx_model.specs.declared.view.ViewPolicy.{ViewPolicy}
use Rattle.fx_model.specs.declared.view.ViewProfile.{ViewProfile}
use Rattle.fx_model.specs.declared.view_rule.ViewRule.{ViewRule}
use Rattle.fx_model.specs.declared.view_rule.ViewSide.{ViewSide}
use Rattle.fx_model.specs.declared.chain.Match.{Match}
use Rattle.fx_model.specs.declared.chain.Match.TheVariants as match
use Rattle.fx_model.specs.declared.chain.Target.{Target}
use Rattle.fx_model.specs.declared.chain.Target.TheVariants as target
use Rattle.fx_model.specs.declared.chain.ChainRule.{ChainRule}
use Rattle.fx_model.specs.Directions.{Direction}
use Rattle.fx_model.specs.Rendering.{names_of}
use Rattle.fx_model.specs.Tables.{ChainName, Chains, Sets, Tables, policy_side, profile_side}

-- each of these keys is in the map
abbrev pub AreThere : {X : Type 0} → maps.FinMap (slice_cmp nat_cmp) X → List (List ℕ) → Type 0
AreThere m [] = Unit {0}
AreThere m (k ∷ ks) = (maps.contains_key m k ≡ true) × AreThere m ks

-- the policies of each tier are there
abbrev pub TiersAreThere : {X : Type 0} → maps.FinMap (slice_cmp nat_cmp) X → List ViewTier → Type 0
TiersAreThere m [] = Unit {0}
TiersAreThere m (t ∷ ts) = AreThere m t.policies × TiersAreThere m ts

-- what an endpoint names is there
pub record EndpointIsClosed (v : View) (e : ViewEndpoint) : Type 0 where
  pub ingress : TiersAreThere v.policies e.ingress
  pub egress : TiersAreThere v.policies e.egress
  pub profiles : AreThere v.profiles e.profiles

-- ---- sets

abbrev pub set_given : Option (List ℕ) → List (List ℕ)
set_given None = []
set_given (Some name) = name ∷ []

-- the sets that a rule names
abbrev pub sets_of_side : ViewSide → List (List ℕ)
sets_of_side s = set_given s.set ++ (set_given s.not_set ++ (names_of s.ports ++ names_of s.not_ports))

abbrev pub sets_of_rule : ViewRule → List (List ℕ)
sets_of_rule r = sets_of_side r.source ++ sets_of_side r.destination

abbrev pub sets_of_rules : List ViewRule → List (List ℕ)
sets_of_rules rs = flat_map sets_of_rule rs

abbrev pub AreOfKind : SetKind → List (List ℕ) → Type 0
AreOfKind k [] = Unit {0}
AreOfKind k (name ∷ names) = (kind_of name ≡ k) × AreOfKind k names

-- sets of nets hold addresses, and those of ports an address with a protocol and a port
pub record SideNamesKinds (s : ViewSide) : Type 0 where
  pub set : AreOfKind Nets (set_given s.set)
  pub not_set : AreOfKind Nets (set_given s.not_set)
  pub ports : AreOfKind Ports (names_of s.ports)
  pub not_ports : AreOfKind Ports (names_of s.not_ports)

pub record NamesKinds (r : ViewRule) : Type 0 where
  pub source : SideNamesKinds r.source
  pub destination : SideNamesKinds r.destination

-- each set that the rules name is there, and is of the kind that its place asks for
pub record NameSets (sets : Sets) (rules : List ViewRule) : Type 0 where
  pub there : AreThere sets (sets_of_rules rules)
  pub kinds : AllByRecursion NamesKinds rules

-- each set, policy and profile that is named is in the view
pub record IsClosedView (v : View) : Type 0 where
  pub endpoints : (iface : List ℕ) (e : ViewEndpoint) → maps.get v.endpoints iface ≡ Some e → EndpointIsClosed v e
  pub policies : (d : Direction) (key : List ℕ) (p : ViewPolicy) → maps.get v.policies key ≡ Some p → NameSets v.sets (policy_side d p)
  pub profiles : (d : Direction) (key : List ℕ) (p : ViewProfile) → maps.get v.profiles key ≡ Some p → NameSets v.sets (profile_side d p)

-- ---- tables

-- the chain that a target leads to is there
abbrev pub LeadsThere : Chains → Target → Type 0
LeadsThere chains target.Accept = Unit {0}
LeadsThere chains target.Drop = Unit {0}
LeadsThere chains target.Return = Unit {0}
LeadsThere chains (target.Jump to) = maps.contains_key chains to ≡ true
LeadsThere chains (target.Goto to) = maps.contains_key chains to ≡ true
LeadsThere chains (target.Mark value mask) = Unit {0}
LeadsThere chains target.Log = Unit {0}

abbrev pub AllLeadThere : Chains → List ChainRule → Type 0
AllLeadThere chains [] = Unit {0}
AllLeadThere chains (r ∷ rs) = LeadsThere chains r.target × AllLeadThere chains rs

-- the set that a match names is there
abbrev pub NamesThere : Sets → Match → Type 0
NamesThere sets (match.Proto proto opposite) = Unit {0}
NamesThere sets (match.Net end net opposite) = Unit {0}
NamesThere sets (match.Iface end name wild) = Unit {0}
NamesThere sets (match.Mark value mask) = Unit {0}
NamesThere sets (match.State related_established) = Unit {0}
NamesThere sets (match.Set end name opposite) = maps.contains_key sets name ≡ true
NamesThere sets (match.Ports end list opposite) = Unit {0}
NamesThere sets (match.Icmp icmp opposite) = Unit {0}

abbrev pub MatchesNameThere : Sets → List Match → Type 0
MatchesNameThere sets [] = Unit {0}
MatchesNameThere sets (m ∷ ms) = NamesThere sets m × MatchesNameThere sets ms

abbrev pub AllNameThere : Sets → List ChainRule → Type 0
AllNameThere sets [] = Unit {0}
AllNameThere sets (r ∷ rs) = MatchesNameThere sets r.matches × AllNameThere sets rs

-- each chain that a rule leads to, and each set that it names, is in the tables
pub record AreClosedTables (t : Tables) : Type 0 where
  pub chains : (name : ChainName) (rules : List ChainRule) → maps.get t.chains name ≡ Some rules → AllLeadThere t.chains rules
  pub sets : (name : ChainName) (rules : List ChainRule) → maps.get t.chains name ≡ Some rules → AllNameThere t.sets rules
