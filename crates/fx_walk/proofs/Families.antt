-- The tables of a view have each chain under its name.
use Rattle.std.proofs.Common.{◌≡◌, ℕ, true, List, [], Option, Some, None, option_map, is_some, refl, ap, ◌∙◌}
use Rattle.std.specs.FinMap as maps
use Rattle.fx_model.specs.declared.chain.ChainRule.{ChainRule}
use Rattle.fx_model.specs.declared.view.View.{View}
use Rattle.fx_model.specs.declared.view.ViewEndpoint.{ViewEndpoint}
use Rattle.fx_model.specs.Directions.{Direction, Ingress, Egress}
use Rattle.fx_model.specs.Tables.{Chains, forward, forward_rules, root_of, endpoint_chain, endpoint_rules, policy_chain, policy_rules, profile_chain, profile_rules}
use Rattle.fx_model.specs.ViewTables.{tables_of}
use Rattle.fx_model.specs.Tree.{child_chain, HoldsTree}
use Rattle.fx_model.specs.Machine.{rules_found, rules_in}
use Rattle.fx_laws.specs.DispatchNames.{is_dispatch}
use Rattle.fx_laws.proofs.TablesAt.{policy_at, profile_at, endpoint_at, dispatch_at, first_at}

-- the rules of what was found
abbrev pub found : {Y : Type 0} → (Y → List ChainRule) → Option Y → List ChainRule
found rules None = []
found rules (Some y) = rules y

pub rules_or_none : {Y : Type 0} (rules : Y → List ChainRule) (o : Option Y) → rules_found (option_map rules o) ≡ found rules o
rules_or_none rules None = refl
rules_or_none rules (Some y) = refl

-- each chain of a policy or a profile of this view stands under its name
pub record RendersRules (v : View) (chains : Chains) : Type 0 where
  pub at_policy : (d : Direction) (key : List ℕ) → rules_in chains (policy_chain d key) ≡ found (policy_rules d) (maps.get v.policies key)
  pub at_profile : (d : Direction) (key : List ℕ) → rules_in chains (profile_chain d key) ≡ found (profile_rules d) (maps.get v.profiles key)

-- so does the chain of each of its endpoints, and those by which packets that are forwarded come there
pub record RendersWays (v : View) (chains : Chains) : Type 0 where
  pub at_forward : rules_in chains forward ≡ forward_rules
  pub tree : HoldsTree (maps.keys v.endpoints) chains
  pub at_endpoint : (d : Direction) (iface : List ℕ) (e : ViewEndpoint) → maps.get v.endpoints iface ≡ Some e → rules_in chains (endpoint_chain d iface) ≡ endpoint_rules d e

-- each chain of this view stands under its name
pub record Renders (v : View) (chains : Chains) : Type 0 where
  pub rules : RendersRules v chains
  pub ways : RendersWays v chains

root_is : (d : Direction) → is_dispatch (root_of d) ≡ true
root_is Ingress = refl
root_is Egress = refl

child_is : (d : Direction) (byte : List ℕ) → is_dispatch (child_chain d byte) ≡ true
child_is Ingress byte = refl
child_is Egress byte = refl

module _ (v : View) where
  pub first_there : maps.contains_key (tables_of v).chains forward ≡ true
  first_there = ap is_some (first_at v)

  pub tables_render : Renders v (tables_of v).chains
  tables_render = record {
    rules = record {
      at_policy = λ d key. ap rules_found (policy_at v d key) ∙ rules_or_none (policy_rules d) (maps.get v.policies key);
      at_profile = λ d key. ap rules_found (profile_at v d key) ∙ rules_or_none (profile_rules d) (maps.get v.profiles key);
    };
    ways = record {
      at_forward = ap rules_found (first_at v);
      tree = record {
        roots = λ d. dispatch_at v (root_of d) (root_is d);
        children = λ d byte. dispatch_at v (child_chain d byte) (child_is d byte);
      };
      at_endpoint = λ d iface e h. ap rules_found (endpoint_at v d iface ∙ ap (option_map (endpoint_rules d)) h);
    };
  }
