-- Each update keeps the nodes' inputs those of the resources. Each lemma takes what the inputs hold now as one equality, which
-- `taken_all` makes of those of single fields.
use Rattle.std.proofs.Common.{◌≡◌, ℕ, true, false, List, Option, refl, sym, ap, ◌∙◌}
use Rattle.std.specs.FinMap as map
use Rattle.fx_names.specs.Digests.{Digest}
use Rattle.fx_model.specs.declared.ids.ItemKey.{ItemKey}
use Rattle.fx_model.specs.declared.ids.ItemKey.TheVariants as item_key
use Rattle.fx_model.specs.declared.ids.Key.{Key}
use Rattle.fx_model.specs.declared.ids.Key.TheVariants as key
use Rattle.fx_model.specs.declared.ids.PolicyId.{PolicyId}
use Rattle.fx_model.specs.declared.policy.NetSet.{NetSet}
use Rattle.fx_model.specs.declared.policy.Policy.{Policy}
use Rattle.fx_model.specs.declared.policy.Tier.{Tier}
use Rattle.fx_model.specs.declared.resources.Endpoint.{Endpoint}
use Rattle.fx_model.specs.declared.resources.Item.{Item}
use Rattle.fx_model.specs.declared.resources.Item.TheVariants as item
use Rattle.fx_model.specs.declared.resources.Profile.{Profile}
use Rattle.fx_model.specs.declared.resources.Resources.{Resources}
use Rattle.fx_model.specs.declared.resources.Update.TheVariants as update
use Rattle.fx_model.specs.Resources.{after, is_served}
use Rattle.fx_model.proofs.Orders.{item_total, exact_item}
use Rattle.fx_label_index.specs.declared.held.Inputs as index
use Rattle.fx_active.specs.declared.inputs.Inputs as active
use Rattle.fx_resolver.specs.declared.inputs.Inputs as resolver
use Rattle.fx_members.specs.declared.inputs.Inputs as members
use Rattle.fx_node_laws.specs.Tied.{held_of, served_profiles, served_known, IsTied}
use Rattle.fx_node_laws.specs.Changes.{taken, with_served_endpoint, with_other_endpoint, without_endpoint, with_net_set, without_net_set, with_profile, without_profile, with_tier, without_tier, with_policy, without_policy, with_endpoints, is_of_kind}
use Rattle.fx_node_laws.proofs.OneKey.{remove_missing}
use Rattle.fx_node_laws.proofs.ItemsAt.{same_item_at}
use Rattle.fx_node_laws.proofs.TakenTies.{taken_is, tied_by}
use Rattle.fx_node_laws.proofs.ItemTies.{put_served_taken, put_other_taken, endpoint_gone_taken, net_set_put_taken, net_set_gone_taken, no_endpoint}
use Rattle.fx_node_laws.proofs.RuleTies.{profile_put_taken, profile_gone_taken, tier_put_taken, tier_gone_taken, policy_put_taken, policy_gone_taken}

module _ {dg : Digest} {R : Resources} {n : index.Inputs} {a : active.Inputs} {r : resolver.Inputs} {m : members.Inputs} (tied : IsTied dg R n a r m) where
  -- nothing is held of an endpoint under a network set's key
  module _ (ns : Option (List ℕ)) (name : List ℕ) where
    pub no_endpoint_of_set : map.remove a.endpoints (item_key.NetSet ns name) ≡ a.endpoints
    no_endpoint_of_set = remove_missing item_total exact_item a.endpoints (item_key.NetSet ns name) (tied.endpoints (item_key.NetSet ns name) ∙ ap (served_profiles R) (no_endpoint (taken_is tied) ns name))

    pub no_local_of_set : map.remove r.endpoints (item_key.NetSet ns name) ≡ r.endpoints
    no_local_of_set = remove_missing item_total exact_item r.endpoints (item_key.NetSet ns name) (tied.locals (item_key.NetSet ns name) ∙ ap (served_known dg R) (no_endpoint (taken_is tied) ns name))

  module _ {n_now : index.Inputs} {a_now : active.Inputs} {r_now : resolver.Inputs} {m_now : members.Inputs} where
    -- the other inputs are free
    pub still_tied : taken n_now a_now r_now m_now ≡ taken n a r m → IsTied dg R n_now a_now r_now m_now
    still_tied now = tied_by (taken n a r m) now (taken_is tied)

    -- ---- endpoints

    module _ (ns name : List ℕ) where
      pub put_served_endpoint : (e : Endpoint) → is_served R e ≡ true → taken n_now a_now r_now m_now ≡ with_served_endpoint dg ns name e (taken n a r m)
          → IsTied dg (after R (update.Put (key.Item (item_key.Endpoint ns name)) (item.Endpoint e))) n_now a_now r_now m_now
      put_served_endpoint e served now = tied_by (with_served_endpoint dg ns name e (taken n a r m)) now (put_served_taken (taken_is tied) ns name e served)

      pub put_other_endpoint : (e : Endpoint) → is_served R e ≡ false → taken n_now a_now r_now m_now ≡ with_other_endpoint ns name e (taken n a r m)
          → IsTied dg (after R (update.Put (key.Item (item_key.Endpoint ns name)) (item.Endpoint e))) n_now a_now r_now m_now
      put_other_endpoint e unserved now = tied_by (with_other_endpoint ns name e (taken n a r m)) now (put_other_taken (taken_is tied) ns name e unserved)

      pub delete_endpoint : taken n_now a_now r_now m_now ≡ without_endpoint ns name (taken n a r m)
          → IsTied dg (after R (update.Delete (key.Item (item_key.Endpoint ns name)))) n_now a_now r_now m_now
      delete_endpoint now = tied_by (without_endpoint ns name (taken n a r m)) now (endpoint_gone_taken (taken_is tied) ns name)

    -- ---- network sets

    module _ (ns : Option (List ℕ)) (name : List ℕ) where
      pub put_net_set : (s : NetSet) → taken n_now a_now r_now m_now ≡ with_net_set ns name s (taken n a r m)
          → IsTied dg (after R (update.Put (key.Item (item_key.NetSet ns name)) (item.NetSet s))) n_now a_now r_now m_now
      put_net_set s now = tied_by (with_net_set ns name s (taken n a r m)) now (net_set_put_taken (taken_is tied) ns name s)

      pub delete_net_set : taken n_now a_now r_now m_now ≡ without_net_set ns name (taken n a r m)
          → IsTied dg (after R (update.Delete (key.Item (item_key.NetSet ns name)))) n_now a_now r_now m_now
      delete_net_set now = tied_by (without_net_set ns name (taken n a r m)) now (net_set_gone_taken (taken_is tied) ns name)

    -- ---- profiles, tiers and policies

    module _ (name : List ℕ) where
      pub put_profile : (p : Profile) → taken n_now a_now r_now m_now ≡ with_profile name p (taken n a r m)
          → IsTied dg (after R (update.Put (key.Profile name) (item.Profile p))) n_now a_now r_now m_now
      put_profile p now = tied_by (with_profile name p (taken n a r m)) now (profile_put_taken (taken_is tied) name p)

      pub delete_profile : taken n_now a_now r_now m_now ≡ without_profile name (taken n a r m)
          → IsTied dg (after R (update.Delete (key.Profile name))) n_now a_now r_now m_now
      delete_profile now = tied_by (without_profile name (taken n a r m)) now (profile_gone_taken (taken_is tied) name)

      pub put_tier : (tier : Tier) → taken n_now a_now r_now m_now ≡ with_tier name tier (taken n a r m)
          → IsTied dg (after R (update.Put (key.Tier name) (item.Tier tier))) n_now a_now r_now m_now
      put_tier tier now = tied_by (with_tier name tier (taken n a r m)) now (tier_put_taken (taken_is tied) name tier)

      pub delete_tier : taken n_now a_now r_now m_now ≡ without_tier name (taken n a r m)
          → IsTied dg (after R (update.Delete (key.Tier name))) n_now a_now r_now m_now
      delete_tier now = tied_by (without_tier name (taken n a r m)) now (tier_gone_taken (taken_is tied) name)

    module _ (id : PolicyId) where
      pub put_policy : (p : Policy) → taken n_now a_now r_now m_now ≡ with_policy id p (taken n a r m)
          → IsTied dg (after R (update.Put (key.Policy id) (item.Policy p))) n_now a_now r_now m_now
      put_policy p now = tied_by (with_policy id p (taken n a r m)) now (policy_put_taken (taken_is tied) id p)

      pub delete_policy : taken n_now a_now r_now m_now ≡ without_policy id (taken n a r m)
          → IsTied dg (after R (update.Delete (key.Policy id))) n_now a_now r_now m_now
      delete_policy now = tied_by (without_policy id (taken n a r m)) now (policy_gone_taken (taken_is tied) id)

    -- ---- in sync: all endpoints of the node are served

    pub in_sync_tied : ((k : ItemKey) → map.get a_now.endpoints k ≡ served_profiles (after R update.InSync) (map.get R.endpoints k))
        → ((k : ItemKey) → map.get r_now.endpoints k ≡ served_known dg (after R update.InSync) (map.get R.endpoints k))
        → taken n_now a_now r_now m_now ≡ with_endpoints a_now.endpoints r_now.endpoints (taken n a r m)
        → IsTied dg (after R update.InSync) n_now a_now r_now m_now
    in_sync_tied endpoints locals now = tied_by (with_endpoints a_now.endpoints r_now.endpoints (taken n a r m)) now (record {
      kinds_endpoints = tied.kinds_endpoints;
      kinds_sets = tied.kinds_sets;
      items = λ k. tied.items k ∙ ap (held_of k) (sym (same_item_at R (after R update.InSync) k refl refl));
      parents = tied.parents;
      policies = tied.policies;
      profiles = tied.profiles;
      endpoints = endpoints;
      tiers = tied.tiers;
      locals = locals;
      contributors = λ k. tied.contributors k ∙ sym (same_item_at R (after R update.InSync) k refl refl);
    })

-- ---- updates that change no resource

pub second_in_sync : (R : Resources) → R.in_sync ≡ true → after R update.InSync ≡ R
second_in_sync R h = λ j. record R { in_sync = sym h j }

pub put_of_other_kind : (R : Resources) (k : Key) (x : Item) → is_of_kind k x ≡ false → after R (update.Put k x) ≡ R
put_of_other_kind R (key.Item (item_key.Endpoint ns name)) (item.Endpoint e) h = cc
put_of_other_kind R (key.Item (item_key.NetSet ns name)) (item.Endpoint e) h = refl
put_of_other_kind R (key.Profile name) (item.Endpoint e) h = refl
put_of_other_kind R (key.Tier name) (item.Endpoint e) h = refl
put_of_other_kind R (key.Policy id) (item.Endpoint e) h = refl
put_of_other_kind R (key.Item k) (item.Profile p) h = refl
put_of_other_kind R (key.Profile name) (item.Profile p) h = cc
put_of_other_kind R (key.Tier name) (item.Profile p) h = refl
put_of_other_kind R (key.Policy id) (item.Profile p) h = refl
put_of_other_kind R (key.Item k) (item.Tier t) h = refl
put_of_other_kind R (key.Profile name) (item.Tier t) h = refl
put_of_other_kind R (key.Tier name) (item.Tier t) h = cc
put_of_other_kind R (key.Policy id) (item.Tier t) h = refl
put_of_other_kind R (key.Item k) (item.Policy p) h = refl
put_of_other_kind R (key.Profile name) (item.Policy p) h = refl
put_of_other_kind R (key.Tier name) (item.Policy p) h = refl
put_of_other_kind R (key.Policy id) (item.Policy p) h = cc
put_of_other_kind R (key.Item (item_key.Endpoint ns name)) (item.NetSet s) h = refl
put_of_other_kind R (key.Item (item_key.NetSet ns name)) (item.NetSet s) h = cc
put_of_other_kind R (key.Profile name) (item.NetSet s) h = refl
put_of_other_kind R (key.Tier name) (item.NetSet s) h = refl
put_of_other_kind R (key.Policy id) (item.NetSet s) h = refl
