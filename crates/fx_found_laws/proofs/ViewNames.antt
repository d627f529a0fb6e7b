-- The chains of any view are own ones, and so are the sets of the view of any resources.
use Rattle.std.proofs.Common.{◌≡◌, ℕ, true, List, [], ◌∷◌, ◌++◌, map, take, refl}
use Rattle.std.specs.List.{AllByRecursion, flat_map}
use Rattle.std.specs.FinMap as maps
use Rattle.fx_base.specs.SetName.{set_name_text}
use Rattle.fx_base.specs.declared.set_name.SetKind.{SetKind}
use Rattle.fx_base.specs.declared.set_name.SetKind.TheVariants.{Nets, Ports}
use Rattle.fx_names.specs.Digests.{Digest}
use Rattle.fx_names.specs.Names.{digest_text}
use Rattle.fx_model.specs.declared.resources.Resources.{Resources}
use Rattle.fx_model.specs.declared.set_use.SetUse.{SetUse}
use Rattle.fx_model.specs.declared.view.View.{View}
use Rattle.fx_model.specs.declared.view.ViewEndpoint.{ViewEndpoint}
use Rattle.fx_model.specs.declared.view.ViewPolicy.{ViewPolicy}
use Rattle.fx_model.specs.declared.view.ViewProfile.{ViewProfile}
use Rattle.fx_model.specs.declared.chain.ChainRule.{ChainRule}
use Rattle.fx_model.specs.Directions.{Direction, Ingress, Egress}
use Rattle.fx_model.specs.Tables.{ChainName, root_of}
use Rattle.fx_model.specs.Tree.{Branch, children, child_entry, root_rules, chains_towards, dispatch_chains_of}
use Rattle.fx_model.specs.Views.{view_of, set_entry, wanted_uses}
use Rattle.fx_model.specs.ViewTables.{policy_chains, profile_chains, endpoint_chains, first_chain, dispatch_chains, chains_of, tables_of}
use Rattle.fx_laws.proofs.Uses.{all-append}
use Rattle.fx_found.specs.NameForms.{is_own_set, is_own_chain}
use Rattle.fx_found_laws.specs.OwnNames.{AreOwnSets, AreOwn}
use Rattle.fx_found_laws.proofs.Maps.{pass-empty, pass-extended, pass-filled}

-- ---- chains

abbrev IsOwn : ChainName × List ChainRule → Type 0
IsOwn e = is_own_chain e.0 ≡ true

abbrev AllOwn : List (ChainName × List ChainRule) → Type 0
AllOwn es = AllByRecursion IsOwn es

policies_own : (es : List (List ℕ × ViewPolicy)) → AllOwn (flat_map policy_chains es)
policies_own [] = tt
policies_own (e ∷ es) = (refl, (refl, policies_own es))

profiles_own : (es : List (List ℕ × ViewProfile)) → AllOwn (flat_map profile_chains es)
profiles_own [] = tt
profiles_own (e ∷ es) = (refl, (refl, profiles_own es))

endpoints_own : (es : List (List ℕ × ViewEndpoint)) → AllOwn (flat_map endpoint_chains es)
endpoints_own [] = tt
endpoints_own (e ∷ es) = (refl, (refl, endpoints_own es))

child_own : (d : Direction) (b : Branch) → IsOwn (child_entry d b)
child_own Ingress b = refl
child_own Egress b = refl

root_own : (d : Direction) → is_own_chain (root_of d) ≡ true
root_own Ingress = refl
root_own Egress = refl

children_own : (d : Direction) (bs : List Branch) → AllOwn (map (child_entry d) bs)
children_own d [] = tt
children_own d (b ∷ bs) = (child_own d b, children_own d bs)

towards_own : (d : Direction) (names : List (List ℕ)) → AllOwn (chains_towards d names)
towards_own d names =
    all-append IsOwn (map (child_entry d) (children names)) ((root_of d, root_rules d names) ∷ []) (children_own d (children names)) (root_own d, tt)

dispatch_own : (v : View) → AllOwn (dispatch_chains v)
dispatch_own v =
    let names = maps.keys v.endpoints in
    all-append IsOwn (dispatch_chains_of names) first_chain
    (all-append IsOwn (chains_towards Ingress names) (chains_towards Egress names) (towards_own Ingress names) (towards_own Egress names))
    (refl, tt)

chains_own : (v : View) → AllOwn (chains_of v)
chains_own v =
    let profiles = flat_map profile_chains (maps.entries v.profiles) in
    let endpoints = flat_map endpoint_chains (maps.entries v.endpoints) in
    all-append IsOwn (flat_map policy_chains (maps.entries v.policies)) (profiles ++ (endpoints ++ dispatch_chains v)) (policies_own (maps.entries v.policies))
    (all-append IsOwn profiles (endpoints ++ dispatch_chains v) (profiles_own (maps.entries v.profiles))
    (all-append IsOwn endpoints (dispatch_chains v) (endpoints_own (maps.entries v.endpoints)) (dispatch_own v)))

pub view_own : (v : View) → AreOwnSets v.sets → AreOwn (tables_of v)
view_own v sets = record {
  sets = sets;
  chains = pass-extended is_own_chain maps.empty (chains_of v) (pass-empty (List ChainRule) is_own_chain) (chains_own v);
}

-- ---- sets

kind_own : (kind : SetKind) (tail : List ℕ) → is_own_set (set_name_text kind tail) ≡ true
kind_own Nets tail = refl
kind_own Ports tail = refl

module _ (dg : Digest) (R : Resources) where
  uses_own : (us : List SetUse) → AllByRecursion (λ e. is_own_set e.0 ≡ true) (map (set_entry dg R) us)
  uses_own [] = tt
  uses_own (u ∷ us) = (kind_own u.kind (take 23 (digest_text dg u.text)), uses_own us)

  pub wanted_sets_own : AreOwnSets (view_of dg R).sets
  wanted_sets_own = pass-filled is_own_set (map (set_entry dg R) (wanted_uses R)) (uses_own (wanted_uses R))

  pub wanted_own : AreOwn (tables_of (view_of dg R))
  wanted_own = view_own (view_of dg R) wanted_sets_own
