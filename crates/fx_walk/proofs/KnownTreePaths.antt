-- The paths of some packets, computed: over a tree of dispatch chains where two of three interfaces go on alike.
use Rattle.std.proofs.Common.{◌≡◌, ℕ, List, [], ◌∷◌, ◌++◌, map, Some, None, refl, ap, ◌∙◌, codes}
use Rattle.std.specs.List.{flat_map}
use Rattle.std.specs.Ordering.{nat_cmp}
use Rattle.std.specs.Cmp.Lexicographic.{slice_cmp, nat_list_cmp_total}
use Rattle.std.specs.FinMap as maps
use Rattle.fx_base.proofs.Entries.{entries-empty}
use Rattle.fx_model.specs.declared.packet.State.TheVariants.{New}
use Rattle.fx_model.specs.declared.chain.Reason.TheVariants as reason
use Rattle.fx_model.specs.declared.chain.ChainRule.{ChainRule}
use Rattle.fx_model.specs.declared.view.View.{View}
use Rattle.fx_model.specs.declared.view.ViewEndpoint.{ViewEndpoint}
use Rattle.fx_model.specs.declared.view.ViewPolicy.{ViewPolicy}
use Rattle.fx_model.specs.declared.view.ViewProfile.{ViewProfile}
use Rattle.fx_model.specs.Directions.{Egress, Ingress}
use Rattle.fx_model.specs.Tables.{ChainName}
use Rattle.fx_model.specs.Tree.{dispatch_chains_of}
use Rattle.fx_model.specs.ViewTables.{first_chain, dispatch_chains, policy_chains, profile_chains, endpoint_chains, chains_of, tables_of}
use Rattle.fx_model.specs.Machine.{holds, hops_and_reasons, last_reason}
use Rattle.fx_model.specs.Walk.{Dropped, over_rule, over_rules}
use Rattle.fx_walk.specs.PacketPaths.{first_walk}
use Rattle.fx_walk.proofs.KnownWalks.{over_look, walk_known, packet}

-- an endpoint without tiers and profiles
abbrev endpoint : ViewEndpoint
endpoint = record { ns = codes "a"; name = codes "w1"; ingress = []; egress = []; profiles = [] }

abbrev three : List (List ℕ × ViewEndpoint)
three = (codes "cali1", endpoint) ∷ (codes "cali12", endpoint) ∷ (codes "cali2", endpoint) ∷ []

abbrev Endpoints : Type 0
Endpoints = maps.FinMap (slice_cmp nat_cmp) ViewEndpoint

abbrev one : Endpoints
one = maps.insert maps.empty (codes "cali1") endpoint

abbrev two : Endpoints
two = maps.insert one (codes "cali12") endpoint

abbrev view : View
view = record { sets = maps.empty; policies = maps.empty; profiles = maps.empty; endpoints = maps.insert two (codes "cali2") endpoint }

endpoints_are : maps.entries view.endpoints ≡ three
endpoints_are =
    maps.entries-insert nat_list_cmp_total two (codes "cali2") endpoint
    ∙ ap (maps.put (slice_cmp nat_cmp) (codes "cali2") endpoint) (maps.entries-insert nat_list_cmp_total one (codes "cali12") endpoint)
    ∙ ap (λ (es : List (List ℕ × ViewEndpoint)). maps.put (slice_cmp nat_cmp) (codes "cali2") endpoint (maps.put (slice_cmp nat_cmp) (codes "cali12") endpoint es)) (maps.entries-insert nat_list_cmp_total maps.empty (codes "cali1") endpoint)
    ∙ ap (λ (es : List (List ℕ × ViewEndpoint)). maps.put (slice_cmp nat_cmp) (codes "cali2") endpoint (maps.put (slice_cmp nat_cmp) (codes "cali12") endpoint (maps.put (slice_cmp nat_cmp) (codes "cali1") endpoint es))) (entries-empty (slice_cmp nat_cmp))

abbrev known : List (ChainName × List ChainRule)
known = flat_map endpoint_chains three ++ (dispatch_chains_of (map (λ e. e.0) three) ++ first_chain)

known_chains : chains_of view ≡ known
known_chains =
    ap (λ (ps : List (List ℕ × ViewPolicy)). flat_map policy_chains ps ++ (flat_map profile_chains (maps.entries view.profiles) ++ (flat_map endpoint_chains (maps.entries view.endpoints) ++ dispatch_chains view))) (entries-empty (slice_cmp nat_cmp))
    ∙ ap (λ (fs : List (List ℕ × ViewProfile)). flat_map profile_chains fs ++ (flat_map endpoint_chains (maps.entries view.endpoints) ++ dispatch_chains view)) (entries-empty (slice_cmp nat_cmp))
    ∙ ap (λ (es : List (List ℕ × ViewEndpoint)). flat_map endpoint_chains es ++ (dispatch_chains_of (map (λ e. e.0) es) ++ first_chain)) endpoints_are

-- the root leads to the chain of the byte 1, and that to the endpoint's
through_a_child : first_walk (tables_of view) (packet (codes "cali12") (codes "eth0") New) [] ≡ Dropped (record {
  hops = (codes "cali-FORWARD", 2) ∷ (codes "cali-from-wl-dispatch", 1) ∷ (codes "cali-from-wl-dispatch-1", 2) ∷ (codes "cali-fw-cali12", 4) ∷ [];
  reasons = record { side = Some Egress; egress = Some reason.NoProfileRule; ingress = None };
})
unfolding over_look over_rules over_rule hops_and_reasons last_reason holds
through_a_child = walk_known view known known_chains (packet (codes "cali12") (codes "eth0") New) ∙ refl

-- the only interface that goes on with the byte 2 has its rule in the root
past_a_child : first_walk (tables_of view) (packet (codes "cali2") (codes "eth0") New) [] ≡ Dropped (record {
  hops = (codes "cali-FORWARD", 2) ∷ (codes "cali-from-wl-dispatch", 2) ∷ (codes "cali-fw-cali2", 4) ∷ [];
  reasons = record { side = Some Egress; egress = Some reason.NoProfileRule; ingress = None };
})
unfolding over_look over_rules over_rule hops_and_reasons last_reason holds
past_a_child = walk_known view known known_chains (packet (codes "cali2") (codes "eth0") New) ∙ refl

-- what begins as two do and is neither is unknown in their chain
unknown_in_a_child : first_walk (tables_of view) (packet (codes "eth0") (codes "cali13") New) [] ≡ Dropped (record {
  hops = (codes "cali-FORWARD", 3) ∷ (codes "cali-to-wl-dispatch", 1) ∷ (codes "cali-to-wl-dispatch-1", 3) ∷ [];
  reasons = record { side = Some Ingress; egress = None; ingress = Some reason.UnknownInterface };
})
unfolding over_look over_rules over_rule hops_and_reasons last_reason holds
unknown_in_a_child = walk_known view known known_chains (packet (codes "eth0") (codes "cali13") New) ∙ refl
