-- The chains of a node to which nothing was sent.
use Rattle.std.proofs.Common.{◌≡◌, ℕ, List, [], ◌++◌, map, is_some, sym, ap, ◌∙◌, subst}
use Rattle.std.specs.List.{flat_map}
use Rattle.std.specs.Ordering.{nat_cmp}
use Rattle.std.specs.Cmp.Lexicographic.{slice_cmp}
use Rattle.std.specs.FinMap as maps
use Rattle.fx_base.specs.Extended.{extended, collected}
use Rattle.fx_base.specs.Set as set
use Rattle.fx_base.proofs.AtKey.{get_empty}
use Rattle.fx_base.proofs.Entries.{entries-empty}
use Rattle.fx_base.proofs.KeyCases.{there_insert, there_inserted}
use Rattle.fx_model.specs.declared.chain.ChainRule.{ChainRule}
use Rattle.fx_model.specs.declared.view.ViewEndpoint.{ViewEndpoint}
use Rattle.fx_model.specs.declared.view.ViewPolicy.{ViewPolicy}
use Rattle.fx_model.specs.declared.view.ViewProfile.{ViewProfile}
use Rattle.fx_model.specs.Directions.{Ingress, Egress}
use Rattle.fx_model.specs.Tables.{ChainName, Chains, Tables, root_of, dispatch_rules, forward, forward_rules}
use Rattle.fx_model.specs.ViewTables.{policy_chains, profile_chains, endpoint_chains}
use Rattle.fx_model.specs.Views.{empty_view}
use Rattle.fx_model.specs.Closed.{AllLeadThere}
use Rattle.fx_model.specs.Writing.{CanBeWritten}
use Rattle.fx_model.specs.Tree.{dispatch_chains_of}
use Rattle.fx_dispatch.specs.Plans.{Writes}
use Rattle.fx_laws.proofs.TreeWritten.{tree_written}
use Rattle.fx_driver.specs.declared.driver.Driver.{Driver}
use Rattle.fx_model.specs.ViewTables.{first_chain}
use Rattle.fx_driver.specs.Driven.{driven_chains}
use Rattle.fx_driver.specs.Drives.{Drives}

no_policies : flat_map policy_chains (maps.entries (maps.empty {X = ViewPolicy} {R = slice_cmp nat_cmp})) ≡ []
no_policies = ap (flat_map policy_chains) (entries-empty (slice_cmp nat_cmp))

no_profiles : flat_map profile_chains (maps.entries (maps.empty {X = ViewProfile} {R = slice_cmp nat_cmp})) ≡ []
no_profiles = ap (flat_map profile_chains) (entries-empty (slice_cmp nat_cmp))

no_endpoints : flat_map endpoint_chains (maps.entries (maps.empty {X = ViewEndpoint} {R = slice_cmp nat_cmp})) ≡ []
no_endpoints = ap (flat_map endpoint_chains) (entries-empty (slice_cmp nat_cmp))

no_keys : maps.keys (maps.empty {X = ViewEndpoint} {R = slice_cmp nat_cmp}) ≡ []
no_keys = ap (map (λ e. e.0)) (entries-empty (slice_cmp nat_cmp))

-- the two roots, which know no interface
abbrev pub bare_roots : Chains
bare_roots = maps.insert (maps.insert maps.empty (root_of Ingress) (dispatch_rules Ingress [])) (root_of Egress) (dispatch_rules Egress [])

-- they and the first chain are all that the empty view has
bare_chains : maps.insert bare_roots forward forward_rules ≡ driven_chains empty_view
bare_chains = sym (λ i. collected (no_policies i ++ (no_profiles i ++ (no_endpoints i ++ (dispatch_chains_of (no_keys i) ++ first_chain)))))

bare_interfaces : (j : List ℕ) → set.contains (set.empty {K = List ℕ} {R = slice_cmp nat_cmp}) j ≡ maps.contains_key empty_view.endpoints j
bare_interfaces j = ap is_some (get_empty j) ∙ sym (ap is_some (get_empty j))

pub roots_writable : (t : Tables) (writes : Writes) → t ≡ record { sets = maps.empty; chains = maps.empty } → writes ≡ dispatch_chains_of [] → CanBeWritten t.sets t.chains writes
roots_writable t writes none are =
    subst (λ (u : Tables). CanBeWritten u.sets u.chains writes) (sym none)
    (subst (CanBeWritten maps.empty maps.empty) (sym are) (tree_written (λ name. ⊥) maps.empty maps.empty (λ d name h. absurd h) [] tt))

pub roots_written : (t u : Tables) (writes : Writes) → t ≡ record { sets = maps.empty; chains = maps.empty } → writes ≡ dispatch_chains_of [] → u ≡ record t { chains = extended t.chains writes } → u ≡ record { sets = maps.empty; chains = bare_roots }
roots_written t u writes none are written = written ∙ (λ i. record { sets = (none i).sets; chains = extended (none i).chains (are i) })

-- the first chain leads to them
pub roots_there : (t : Tables) (rules : List ChainRule) → t ≡ record { sets = maps.empty; chains = bare_roots } → rules ≡ forward_rules → AllLeadThere t.chains rules
roots_there t rules is are =
    let first : Chains = maps.insert maps.empty (root_of Ingress) (dispatch_rules Ingress []) in
    let egress = there_inserted first (root_of Egress) (dispatch_rules Egress []) in
    let ingress = there_insert first (root_of Egress) (dispatch_rules Egress []) (root_of Ingress) (there_inserted maps.empty (root_of Ingress) (dispatch_rules Ingress [])) in
    subst (AllLeadThere t.chains) (sym are) (subst (λ (u : Tables). AllLeadThere u.chains forward_rules) (sym is) (tt, (egress, (ingress, tt))))

pub drives_empty : (driver : Driver) (t : Tables) (name : ChainName) (rules : List ChainRule) → t ≡ record { sets = maps.empty; chains = bare_roots } → driver.tables ≡ record t { chains = maps.insert t.chains name rules } → name ≡ forward → rules ≡ forward_rules → driver.dispatch ≡ set.empty → Drives driver empty_view
drives_empty driver t name rules is last first are none = record {
  tables = last ∙ ap (λ (x : Tables). record x { chains = maps.insert x.chains name rules }) is
      ∙ (λ i. record { sets = maps.empty; chains = maps.insert bare_roots (first i) (are i) })
      ∙ ap (λ (m : Chains). record { sets = maps.empty; chains = m }) bare_chains;
  interfaces = λ j. ap (λ (s : set.Set (slice_cmp nat_cmp)). set.contains s j) none ∙ bare_interfaces j;
}
