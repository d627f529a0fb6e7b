-- The tables that a view is rendered to: its IP sets, the chains of its policies, profiles and endpoints, the tree of chains by
-- which a packet finds the chain of its interface's endpoint, and the first chain.
use Rattle.std.specs.Prelude.{ℕ, List, [], ◌∷◌, ◌++◌}
use Rattle.std.specs.List.{flat_map}
use Rattle.std.specs.FinMap as maps
use Rattle.fx_base.specs.Extended.{collected}
use Rattle.fx_model.specs.declared.view.View.{View}
use Rattle.fx_model.specs.declared.view.ViewPolicy.{ViewPolicy}
use Rattle.fx_model.specs.declared.view.ViewProfile.{ViewProfile}
use Rattle.fx_model.specs.declared.view.ViewEndpoint.{ViewEndpoint}
use Rattle.fx_model.specs.declared.chain.ChainRule.{ChainRule}
use Rattle.fx_model.specs.Directions.{Ingress, Egress}
use Rattle.fx_model.specs.Tables.{ChainName, Tables, policy_chain, policy_rules, profile_chain, profile_rules, endpoint_chain, endpoint_rules, forward, forward_rules}
use Rattle.fx_model.specs.Tree.{dispatch_chains_of}

abbrev pub policy_chains : List ℕ × ViewPolicy → List (ChainName × List ChainRule)
policy_chains x = (policy_chain Ingress x.0, policy_rules Ingress x.1) ∷ (policy_chain Egress x.0, policy_rules Egress x.1) ∷ []

abbrev pub profile_chains : List ℕ × ViewProfile → List (ChainName × List ChainRule)
profile_chains x = (profile_chain Ingress x.0, profile_rules Ingress x.1) ∷ (profile_chain Egress x.0, profile_rules Egress x.1) ∷ []

abbrev pub endpoint_chains : List ℕ × ViewEndpoint → List (ChainName × List ChainRule)
endpoint_chains x = (endpoint_chain Ingress x.0, endpoint_rules Ingress x.1) ∷ (endpoint_chain Egress x.0, endpoint_rules Egress x.1) ∷ []

-- the first chain, at which every packet begins
abbrev pub first_chain : List (ChainName × List ChainRule)
first_chain = (forward, forward_rules) ∷ []

-- the tree of the view's interfaces, and the first chain
abbrev pub dispatch_chains : View → List (ChainName × List ChainRule)
dispatch_chains v = dispatch_chains_of (maps.keys v.endpoints) ++ first_chain

-- all chains of a view, each behind those that it leads to
abbrev pub chains_of : View → List (ChainName × List ChainRule)
chains_of v =
    flat_map policy_chains (maps.entries v.policies) ++ (flat_map profile_chains (maps.entries v.profiles)
    ++ (flat_map endpoint_chains (maps.entries v.endpoints) ++ dispatch_chains v))

abbrev pub tables_of : View → Tables
tables_of v = record { sets = v.sets; chains = collected (chains_of v) }
