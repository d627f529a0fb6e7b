-- Each change of the nodes is asked names of its own, and gives the graph of the resources after the update.
use Rattle.std.proofs.Common.{◌≡◌, ℕ, Bool, true, false, not, ◌&&◌, ◌≤◌, length, List, Option, None, refl, sym, ap, ◌∙◌, subst}
use Rattle.std.proofs.lemmas.Bool.{leb-true}
use Rattle.std.specs.Str.{bytes_eq}
use Rattle.std.specs.FinMap as map
use Rattle.fx_base.specs.Same.{both_pass}
use Rattle.fx_names.specs.Digests.{Digest}
use Rattle.fx_model.specs.Formed.{is_endpoint_key, is_net_set_key, is_formed, is_formed_key, is_formed_item, is_formed_endpoint}
use Rattle.fx_model.specs.Labels.{namespace_parents, set_namespace}
use Rattle.fx_model.specs.Resources.{after, is_local, is_served}
use Rattle.fx_model.specs.declared.ids.ItemKey.{ItemKey}
use Rattle.fx_model.specs.declared.ids.ItemKey.TheVariants as item_key
use Rattle.fx_model.specs.declared.ids.Key.TheVariants as key
use Rattle.fx_model.specs.declared.ids.PolicyId.{PolicyId}
use Rattle.fx_model.specs.declared.policy.NetSet.{NetSet}
use Rattle.fx_model.specs.declared.policy.Policy.{Policy}
use Rattle.fx_model.specs.declared.policy.Tier.{Tier}
use Rattle.fx_model.specs.declared.resources.Endpoint.{Endpoint}
use Rattle.fx_model.specs.declared.resources.Item.TheVariants as item
use Rattle.fx_model.specs.declared.resources.Profile.{Profile}
use Rattle.fx_model.specs.declared.resources.Resources.{Resources}
use Rattle.fx_model.specs.declared.resources.Update.TheVariants as update
use Rattle.fx_resolver.specs.Resolved.{HaveOwnInterfaces}
use Rattle.fx_node_laws.specs.Changes.{Taken, with_profile, without_profile, with_tier, without_tier, with_policy, without_policy}
use Rattle.fx_node_laws.specs.Tied.{known_endpoint}
use Rattle.fx_node_laws.specs.Waits.{AreWaiting, waiting_of}
use Rattle.fx_node_laws.proofs.ItemTies.{put_served_taken, put_other_taken, endpoint_gone_taken, net_set_put_taken, net_set_gone_taken}
use Rattle.fx_node_laws.proofs.RuleTies.{profile_put_taken, profile_gone_taken, policy_put_taken, policy_gone_taken, tier_put_taken, tier_gone_taken}
use Rattle.fx_node_laws.proofs.TakenTies.{IsTaken, taken_is, tied_by}
use Rattle.fx_node_laws.proofs.WaitTies.{waiting_put, other_put, waiting_gone, waiting_stays, waiting_in_sync}
use Rattle.fx_graph.specs.Graphs.{IsGraphOf, IsAccepted}
use Rattle.fx_graph.specs.InStep.{IsInStep}
use Rattle.fx_graph.specs.Taking.{AreApart, IsBeside, taken_of, with_served, with_other, without_item, labelled_other, unlabelled, contributing, withdrawn}
use Rattle.fx_graph.specs.declared.nodes.Nodes.{Nodes}
use Rattle.fx_graph.specs.declared.state.GraphState.{GraphState}
use Rattle.fx_graph.proofs.Agreeing.{graph_of}
use Rattle.fx_graph.proofs.Named.{apart_of, own_of}

never_both : (a b : Bool) → a ≡ false → (a && b) ≡ false
never_both a b h = ap (λ c. c && b) h

both_not : (a b : Bool) → b ≡ false → (a && b) ≡ false
both_not true b h = h
both_not false b h = refl

both_so : (a b : Bool) → a ≡ true → b ≡ true → (a && b) ≡ true
both_so a b h k = ap (λ c. c && b) h ∙ k

-- a put is formed: its key is of its item's kind, and an interface's name is short
pub kind_of_put : (k : ItemKey) (e : Endpoint) → is_formed (update.Put (key.Item k) (item.Endpoint e)) ≡ true → is_endpoint_key (key.Item k) ≡ true
kind_of_put k e h = (both_pass (is_endpoint_key (key.Item k)) (is_formed_endpoint e) (both_pass (is_formed_key (key.Item k)) (is_formed_item (key.Item k) (item.Endpoint e)) h).1).0

pub short_of_put : (k : ItemKey) (e : Endpoint) → is_formed (update.Put (key.Item k) (item.Endpoint e)) ≡ true → length e.iface ≤ 15
short_of_put k e h = leb-true (length e.iface) 15 (both_pass (is_endpoint_key (key.Item k)) (is_formed_endpoint e) (both_pass (is_formed_key (key.Item k)) (is_formed_item (key.Item k) (item.Endpoint e)) h).1).1

pub kind_of_set_put : (k : ItemKey) (s : NetSet) → is_formed (update.Put (key.Item k) (item.NetSet s)) ≡ true → is_net_set_key (key.Item k) ≡ true
kind_of_set_put k s h = (both_pass (is_formed_key (key.Item k)) (is_formed_item (key.Item k) (item.NetSet s)) h).1

not_set_key : (ns : Option (List ℕ)) (name : List ℕ) → is_endpoint_key (key.Item (item_key.NetSet ns name)) ≡ true → ⊥
not_set_key ns name e = cc

not_endpoint_key : (ns name : List ℕ) → is_net_set_key (key.Item (item_key.Endpoint ns name)) ≡ true → ⊥
not_endpoint_key ns name e = cc

module _ (dg : Digest) (R : Resources) (old : GraphState) (h : IsGraphOf dg R old) where
  abbrev g : Nodes
  g = old.nodes

  holds_taken : IsTaken dg R (taken_of g)
  holds_taken = taken_is h.nodes.tied

  -- which endpoints are served
  pub unserved_elsewhere : (e : Endpoint) → bytes_eq e.node old.node ≡ false → is_served R e ≡ false
  unserved_elsewhere e other = both_not R.in_sync (is_local R e) (ap (bytes_eq e.node) (sym h.node) ∙ other)

  pub unserved_unready : (e : Endpoint) → old.in_sync ≡ false → is_served R e ≡ false
  unserved_unready e unready = never_both R.in_sync (is_local R e) (sym h.in_sync ∙ unready)

  pub served_here : (e : Endpoint) → bytes_eq e.node old.node ≡ true → old.in_sync ≡ true → is_served R e ≡ true
  served_here e same ready = both_so R.in_sync (is_local R e) (sym h.in_sync ∙ ready) (ap (bytes_eq e.node) (sym h.node) ∙ same)

  -- what is held afterwards is that of the resources then
  made : (S : Resources) (t : Taken) (g_now : Nodes) → IsTaken dg S t → IsInStep dg None g_now → taken_of g_now ≡ t → S.node ≡ R.node → S.in_sync ≡ R.in_sync → AreWaiting S g_now.waiting → IsGraphOf dg S (record old { nodes = g_now })
  made S t g_now is settled now nodes marks waiting = graph_of dg (record old { nodes = g_now }) settled S (h.node ∙ sym nodes) (h.in_sync ∙ sym marks) (tied_by t now is) waiting

  -- resources whose endpoints stay
  stays : (S : Resources) (t : Taken) (g_now : Nodes) → IsTaken dg S t → IsInStep dg None g_now → taken_of g_now ≡ t → IsBeside g g_now → S.node ≡ R.node → S.in_sync ≡ R.in_sync → S.endpoints ≡ R.endpoints → IsGraphOf dg S (record old { nodes = g_now })
  stays S t g_now is settled now beside nodes marks endpoints = made S t g_now is settled now nodes marks
      (subst (AreWaiting S) (sym beside.waiting) (waiting_stays R S marks nodes endpoints g.waiting h.nodes.waiting))

  -- ---- profiles, tiers and policies
  module _ (g_now : Nodes) (settled : IsInStep dg None g_now) (beside : IsBeside g g_now) where
    pub after_profile_put : (name : List ℕ) (p : Profile) → taken_of g_now ≡ with_profile name p (taken_of g) → IsGraphOf dg (after R (update.Put (key.Profile name) (item.Profile p))) (record old { nodes = g_now })
    after_profile_put name p now = stays (after R (update.Put (key.Profile name) (item.Profile p))) (with_profile name p (taken_of g)) g_now (profile_put_taken holds_taken name p) settled now beside refl refl refl

    pub after_profile_gone : (name : List ℕ) → taken_of g_now ≡ without_profile name (taken_of g) → IsGraphOf dg (after R (update.Delete (key.Profile name))) (record old { nodes = g_now })
    after_profile_gone name now = stays (after R (update.Delete (key.Profile name))) (without_profile name (taken_of g)) g_now (profile_gone_taken holds_taken name) settled now beside refl refl refl

    pub after_tier_put : (name : List ℕ) (tier : Tier) → taken_of g_now ≡ with_tier name tier (taken_of g) → IsGraphOf dg (after R (update.Put (key.Tier name) (item.Tier tier))) (record old { nodes = g_now })
    after_tier_put name tier now = stays (after R (update.Put (key.Tier name) (item.Tier tier))) (with_tier name tier (taken_of g)) g_now (tier_put_taken holds_taken name tier) settled now beside refl refl refl

    pub after_tier_gone : (name : List ℕ) → taken_of g_now ≡ without_tier name (taken_of g) → IsGraphOf dg (after R (update.Delete (key.Tier name))) (record old { nodes = g_now })
    after_tier_gone name now = stays (after R (update.Delete (key.Tier name))) (without_tier name (taken_of g)) g_now (tier_gone_taken holds_taken name) settled now beside refl refl refl

    pub after_policy_put : (id : PolicyId) (p : Policy) → taken_of g_now ≡ with_policy id p (taken_of g) → IsGraphOf dg (after R (update.Put (key.Policy id) (item.Policy p))) (record old { nodes = g_now })
    after_policy_put id p now = stays (after R (update.Put (key.Policy id) (item.Policy p))) (with_policy id p (taken_of g)) g_now (policy_put_taken holds_taken id p) settled now beside refl refl refl

    pub after_policy_gone : (id : PolicyId) → taken_of g_now ≡ without_policy id (taken_of g) → IsGraphOf dg (after R (update.Delete (key.Policy id))) (record old { nodes = g_now })
    after_policy_gone id now = stays (after R (update.Delete (key.Policy id))) (without_policy id (taken_of g)) g_now (policy_gone_taken holds_taken id) settled now beside refl refl refl

    -- ---- network sets
    pub after_set_put : (k : ItemKey) (s : NetSet) → is_net_set_key (key.Item k) ≡ true → taken_of g_now ≡ labelled_other k s.labels (namespace_parents (set_namespace k)) (contributing k (item.NetSet s) (taken_of g)) → IsGraphOf dg (after R (update.Put (key.Item k) (item.NetSet s))) (record old { nodes = g_now })
    after_set_put (item_key.Endpoint ns name) s kind now = absurd (not_endpoint_key ns name kind)
    after_set_put (item_key.NetSet ns name) s kind now = stays _ _ g_now (net_set_put_taken holds_taken ns name s) settled now beside refl refl refl

    pub after_set_gone : (k : ItemKey) → is_net_set_key (key.Item k) ≡ true → taken_of g_now ≡ unlabelled k (withdrawn k (taken_of g)) → IsGraphOf dg (after R (update.Delete (key.Item k))) (record old { nodes = g_now })
    after_set_gone (item_key.Endpoint ns name) kind now = absurd (not_endpoint_key ns name kind)
    after_set_gone (item_key.NetSet ns name) kind now = stays _ _ g_now (net_set_gone_taken holds_taken ns name) settled now beside refl refl refl

  -- ---- endpoints
  module _ (g_now : Nodes) (settled : IsInStep dg None g_now) where
    elsewhere : (e : Endpoint) → bytes_eq e.node old.node ≡ false → is_local R e ≡ false
    elsewhere e other = ap (bytes_eq e.node) (sym h.node) ∙ other

    here : (e : Endpoint) → bytes_eq e.node old.node ≡ true → is_local R e ≡ true
    here e same = ap (bytes_eq e.node) (sym h.node) ∙ same

    pub after_put_elsewhere : (k : ItemKey) (e : Endpoint) → is_endpoint_key (key.Item k) ≡ true → bytes_eq e.node old.node ≡ false → taken_of g_now ≡ with_other k e (taken_of g) → g_now.waiting ≡ map.remove g.waiting k → IsGraphOf dg (after R (update.Put (key.Item k) (item.Endpoint e))) (record old { nodes = g_now })
    after_put_elsewhere (item_key.NetSet ns name) e kind other now waiting = absurd (not_set_key ns name kind)
    after_put_elsewhere (item_key.Endpoint ns name) e kind other now waiting = made (after R (update.Put (key.Item (item_key.Endpoint ns name)) (item.Endpoint e))) (with_other (item_key.Endpoint ns name) e (taken_of g)) g_now (put_other_taken holds_taken ns name e (unserved_elsewhere e other)) settled now refl refl
        (subst (AreWaiting (after R (update.Put (key.Item (item_key.Endpoint ns name)) (item.Endpoint e)))) (sym waiting) (other_put R g.waiting h.nodes.waiting (item_key.Endpoint ns name) e (both_not (not R.in_sync) (is_local R e) (elsewhere e other))))

    pub after_put_waiting : (k : ItemKey) (e : Endpoint) → is_endpoint_key (key.Item k) ≡ true → bytes_eq e.node old.node ≡ true → old.in_sync ≡ false → taken_of g_now ≡ with_other k e (taken_of g) → g_now.waiting ≡ map.insert g.waiting k (waiting_of e) → IsGraphOf dg (after R (update.Put (key.Item k) (item.Endpoint e))) (record old { nodes = g_now })
    after_put_waiting (item_key.NetSet ns name) e kind same unready now waiting = absurd (not_set_key ns name kind)
    after_put_waiting (item_key.Endpoint ns name) e kind same unready now waiting = made (after R (update.Put (key.Item (item_key.Endpoint ns name)) (item.Endpoint e))) (with_other (item_key.Endpoint ns name) e (taken_of g)) g_now (put_other_taken holds_taken ns name e (unserved_unready e unready)) settled now refl refl
        (subst (AreWaiting (after R (update.Put (key.Item (item_key.Endpoint ns name)) (item.Endpoint e)))) (sym waiting) (waiting_put R g.waiting h.nodes.waiting (item_key.Endpoint ns name) e (both_so (not R.in_sync) (is_local R e) (ap not (sym h.in_sync ∙ unready)) (here e same))))

    pub after_put_served : (k : ItemKey) (e : Endpoint) → is_endpoint_key (key.Item k) ≡ true → bytes_eq e.node old.node ≡ true → old.in_sync ≡ true → taken_of g_now ≡ with_served dg k e (taken_of g) → g_now.waiting ≡ g.waiting → IsGraphOf dg (after R (update.Put (key.Item k) (item.Endpoint e))) (record old { nodes = g_now })
    after_put_served (item_key.NetSet ns name) e kind same ready now waiting = absurd (not_set_key ns name kind)
    after_put_served (item_key.Endpoint ns name) e kind same ready now waiting = made (after R (update.Put (key.Item (item_key.Endpoint ns name)) (item.Endpoint e))) (with_served dg (item_key.Endpoint ns name) e (taken_of g)) g_now (put_served_taken holds_taken ns name e (served_here e same ready)) settled now refl refl
        (subst (AreWaiting (after R (update.Put (key.Item (item_key.Endpoint ns name)) (item.Endpoint e)))) (sym waiting) (waiting_in_sync R (after R (update.Put (key.Item (item_key.Endpoint ns name)) (item.Endpoint e))) (sym h.in_sync ∙ ready) (sym h.in_sync ∙ ready) g.waiting h.nodes.waiting))

    pub after_endpoint_gone : (k : ItemKey) → is_endpoint_key (key.Item k) ≡ true → taken_of g_now ≡ without_item k (taken_of g) → g_now.waiting ≡ map.remove g.waiting k → IsGraphOf dg (after R (update.Delete (key.Item k))) (record old { nodes = g_now })
    after_endpoint_gone (item_key.NetSet ns name) kind now waiting = absurd (not_set_key ns name kind)
    after_endpoint_gone (item_key.Endpoint ns name) kind now waiting = made (after R (update.Delete (key.Item (item_key.Endpoint ns name)))) (without_item (item_key.Endpoint ns name) (taken_of g)) g_now (endpoint_gone_taken holds_taken ns name) settled now refl refl
        (subst (AreWaiting (after R (update.Delete (key.Item (item_key.Endpoint ns name))))) (sym waiting) (waiting_gone R g.waiting h.nodes.waiting (item_key.Endpoint ns name)))

  -- ---- names
  pub profile_put_apart : (name : List ℕ) (p : Profile) → IsAccepted dg R (update.Put (key.Profile name) (item.Profile p)) → AreApart dg (with_profile name p (taken_of g))
  profile_put_apart name p a = apart_of dg _ _ a.formed a.apart (profile_put_taken holds_taken name p)

  pub profile_gone_apart : (name : List ℕ) → IsAccepted dg R (update.Delete (key.Profile name)) → AreApart dg (without_profile name (taken_of g))
  profile_gone_apart name a = apart_of dg _ _ a.formed a.apart (profile_gone_taken holds_taken name)

  pub policy_put_apart : (id : PolicyId) (p : Policy) → IsAccepted dg R (update.Put (key.Policy id) (item.Policy p)) → AreApart dg (with_policy id p (taken_of g))
  policy_put_apart id p a = apart_of dg _ _ a.formed a.apart (policy_put_taken holds_taken id p)

  pub policy_gone_apart : (id : PolicyId) → IsAccepted dg R (update.Delete (key.Policy id)) → AreApart dg (without_policy id (taken_of g))
  policy_gone_apart id a = apart_of dg _ _ a.formed a.apart (policy_gone_taken holds_taken id)

  pub set_put_apart : (k : ItemKey) (s : NetSet) → is_net_set_key (key.Item k) ≡ true → IsAccepted dg R (update.Put (key.Item k) (item.NetSet s)) → AreApart dg (labelled_other k s.labels (namespace_parents (set_namespace k)) (contributing k (item.NetSet s) (taken_of g)))
  set_put_apart (item_key.Endpoint ns name) s kind a = absurd (not_endpoint_key ns name kind)
  set_put_apart (item_key.NetSet ns name) s kind a = apart_of dg _ _ a.formed a.apart (net_set_put_taken holds_taken ns name s)

  pub set_gone_apart : (k : ItemKey) → is_net_set_key (key.Item k) ≡ true → IsAccepted dg R (update.Delete (key.Item k)) → AreApart dg (unlabelled k (withdrawn k (taken_of g)))
  set_gone_apart (item_key.Endpoint ns name) kind a = absurd (not_endpoint_key ns name kind)
  set_gone_apart (item_key.NetSet ns name) kind a = apart_of dg _ _ a.formed a.apart (net_set_gone_taken holds_taken ns name)

  pub other_put_apart : (k : ItemKey) (e : Endpoint) → is_endpoint_key (key.Item k) ≡ true → is_served R e ≡ false → IsAccepted dg R (update.Put (key.Item k) (item.Endpoint e)) → AreApart dg (with_other k e (taken_of g))
  other_put_apart (item_key.NetSet ns name) e kind unserved a = absurd (not_set_key ns name kind)
  other_put_apart (item_key.Endpoint ns name) e kind unserved a = apart_of dg _ _ a.formed a.apart (put_other_taken holds_taken ns name e unserved)

  pub served_put_apart : (k : ItemKey) (e : Endpoint) → is_endpoint_key (key.Item k) ≡ true → is_served R e ≡ true → IsAccepted dg R (update.Put (key.Item k) (item.Endpoint e)) → AreApart dg (with_served dg k e (taken_of g))
  served_put_apart (item_key.NetSet ns name) e kind served a = absurd (not_set_key ns name kind)
  served_put_apart (item_key.Endpoint ns name) e kind served a = apart_of dg _ _ a.formed a.apart (put_served_taken holds_taken ns name e served)

  pub served_put_own : (k : ItemKey) (e : Endpoint) → is_endpoint_key (key.Item k) ≡ true → is_served R e ≡ true → IsAccepted dg R (update.Put (key.Item k) (item.Endpoint e)) → HaveOwnInterfaces (map.insert g.resolver.endpoints k (known_endpoint dg e))
  served_put_own (item_key.NetSet ns name) e kind served a = absurd (not_set_key ns name kind)
  served_put_own (item_key.Endpoint ns name) e kind served a = own_of dg _ _ a.formed a.apart (put_served_taken holds_taken ns name e served)

  pub endpoint_gone_apart : (k : ItemKey) → is_endpoint_key (key.Item k) ≡ true → IsAccepted dg R (update.Delete (key.Item k)) → AreApart dg (without_item k (taken_of g))
  endpoint_gone_apart (item_key.NetSet ns name) kind a = absurd (not_set_key ns name kind)
  endpoint_gone_apart (item_key.Endpoint ns name) kind a = apart_of dg _ _ a.formed a.apart (endpoint_gone_taken holds_taken ns name)
