-- What the nodes' inputs hold of the resources after an update of a profile, of a tier or of a policy, and once the datastore is in sync.
use Rattle.std.proofs.Common.{◌≡◌, ℕ, List, refl, sym, ap, ◌∙◌}
use Rattle.std.specs.Prelude.{option_map}
use Rattle.std.specs.Cmp.Lexicographic.{nat_list_cmp_total}
use Rattle.std.specs.FinMap as map
use Rattle.fx_base.proofs.KeyCases.{bytes_exact}
use Rattle.fx_names.specs.Digests.{Digest}
use Rattle.fx_model.specs.declared.ids.ItemKey.{ItemKey}
use Rattle.fx_model.specs.declared.ids.Key.TheVariants as key
use Rattle.fx_model.specs.declared.ids.PolicyId.{PolicyId}
use Rattle.fx_model.specs.declared.policy.Policy.{Policy}
use Rattle.fx_model.specs.declared.policy.Tier.{Tier}
use Rattle.fx_model.specs.declared.resources.Item.TheVariants as item
use Rattle.fx_model.specs.declared.resources.Profile.{Profile}
use Rattle.fx_model.specs.declared.resources.Resources.{Resources}
use Rattle.fx_model.specs.declared.resources.Update.TheVariants as update
use Rattle.fx_model.specs.Resources.{after}
use Rattle.fx_model.specs.Tests.{item_at}
use Rattle.fx_node_laws.specs.Tied.{held_of, served_profiles, served_known}
use Rattle.fx_node_laws.specs.Changes.{Taken, with_profile, without_profile, with_tier, without_tier, with_policy, without_policy}
use Rattle.fx_node_laws.proofs.OneKey.{here_inserted, here_removed, there_inserted, there_removed, known_inserted, known_removed}
use Rattle.fx_node_laws.proofs.ItemsAt.{same_item_at, same_profiles, same_known}
use Rattle.fx_node_laws.proofs.TakenTies.{IsTaken}

module _ {dg : Digest} {R : Resources} {t : Taken} (is : IsTaken dg R t) where
  -- ---- the endpoints and network sets stay, and so do the node and whether the datastore is in sync

  module _ (S : Resources) (endpoints : S.endpoints ≡ R.endpoints) (sets : S.net_sets ≡ R.net_sets) where
    same_item : (k : ItemKey) → item_at S k ≡ item_at R k
    same_item k = same_item_at R S k (λ j. map.get (endpoints j) k) (λ j. map.get (sets j) k)

    items_stay : (k : ItemKey) → map.get t.items k ≡ held_of k (item_at S k)
    items_stay k = is.items k ∙ ap (held_of k) (sym (same_item k))

    contributors_stay : (k : ItemKey) → map.get t.contributors k ≡ item_at S k
    contributors_stay k = is.contributors k ∙ sym (same_item k)

    module _ (marks : S.in_sync ≡ R.in_sync) (nodes : S.node ≡ R.node) where
      endpoints_stay : (k : ItemKey) → map.get t.endpoints k ≡ served_profiles S (map.get S.endpoints k)
      endpoints_stay k = is.endpoints k ∙ sym (ap (served_profiles S) (λ j. map.get (endpoints j) k) ∙ same_profiles R S marks nodes (map.get R.endpoints k))

      locals_stay : (k : ItemKey) → map.get t.locals k ≡ served_known dg S (map.get S.endpoints k)
      locals_stay k = is.locals k ∙ sym (ap (served_known dg S) (λ j. map.get (endpoints j) k) ∙ same_known R S marks nodes dg (map.get R.endpoints k))

  -- ---- profiles

  module _ (name : List ℕ) where
    module _ (p : Profile) where
      abbrev profile_put : Resources
      profile_put = after R (update.Put (key.Profile name) (item.Profile p))

      pub profile_put_taken : IsTaken dg profile_put (with_profile name p t)
      profile_put_taken = record {
        kinds_endpoints = is.kinds_endpoints;
        kinds_sets = is.kinds_sets;
        items = items_stay profile_put refl refl;
        parents = known_inserted nat_list_cmp_total bytes_exact (λ q. option_map (λ (x : Profile). x.labels) (map.get R.profiles q)) (λ q. option_map (λ (x : Profile). x.labels) (map.get profile_put.profiles q)) t.parents name is.parents
            (λ q other. ap (λ o. option_map (λ (x : Profile). x.labels) o) (there_inserted nat_list_cmp_total bytes_exact R.profiles name p q other))
            p.labels (ap (λ o. option_map (λ (x : Profile). x.labels) o) (here_inserted nat_list_cmp_total bytes_exact R.profiles name p));
        policies = is.policies;
        profiles = λ j. map.insert (is.profiles j) name p;
        endpoints = endpoints_stay profile_put refl refl refl refl;
        tiers = is.tiers;
        locals = locals_stay profile_put refl refl refl refl;
        contributors = contributors_stay profile_put refl refl;
      }

    abbrev profile_gone : Resources
    profile_gone = after R (update.Delete (key.Profile name))

    pub profile_gone_taken : IsTaken dg profile_gone (without_profile name t)
    profile_gone_taken = record {
      kinds_endpoints = is.kinds_endpoints;
      kinds_sets = is.kinds_sets;
      items = items_stay profile_gone refl refl;
      parents = known_removed nat_list_cmp_total bytes_exact (λ q. option_map (λ (x : Profile). x.labels) (map.get R.profiles q)) (λ q. option_map (λ (x : Profile). x.labels) (map.get profile_gone.profiles q)) t.parents name is.parents
          (λ q other. ap (λ o. option_map (λ (x : Profile). x.labels) o) (there_removed nat_list_cmp_total bytes_exact R.profiles name q other))
          (ap (λ o. option_map (λ (x : Profile). x.labels) o) (here_removed nat_list_cmp_total bytes_exact R.profiles name));
      policies = is.policies;
      profiles = λ j. map.remove (is.profiles j) name;
      endpoints = endpoints_stay profile_gone refl refl refl refl;
      tiers = is.tiers;
      locals = locals_stay profile_gone refl refl refl refl;
      contributors = contributors_stay profile_gone refl refl;
    }

  -- ---- tiers and policies

  -- the profiles stay, too
  module _ (S : Resources) (endpoints : S.endpoints ≡ R.endpoints) (sets : S.net_sets ≡ R.net_sets) (marks : S.in_sync ≡ R.in_sync) (nodes : S.node ≡ R.node) (profiles : S.profiles ≡ R.profiles) where
    lists_taken : (u : Taken) → u.tiers ≡ S.tiers → u.policies ≡ S.policies → IsTaken dg S (record t { tiers = u.tiers; policies = u.policies })
    lists_taken u tiers policies = record {
      kinds_endpoints = λ k e h. is.kinds_endpoints k e ((λ j. map.get (sym endpoints j) k) ∙ h);
      kinds_sets = λ k s h. is.kinds_sets k s ((λ j. map.get (sym sets j) k) ∙ h);
      items = items_stay S endpoints sets;
      parents = λ name. is.parents name ∙ (λ j. option_map (λ (x : Profile). x.labels) (map.get (sym profiles j) name));
      policies = policies;
      profiles = is.profiles ∙ sym profiles;
      endpoints = endpoints_stay S endpoints sets marks nodes;
      tiers = tiers;
      locals = locals_stay S endpoints sets marks nodes;
      contributors = contributors_stay S endpoints sets;
    }

  pub tier_put_taken : (name : List ℕ) (tier : Tier) → IsTaken dg (after R (update.Put (key.Tier name) (item.Tier tier))) (with_tier name tier t)
  tier_put_taken name tier = lists_taken (after R (update.Put (key.Tier name) (item.Tier tier))) refl refl refl refl refl (with_tier name tier t) (λ j. map.insert (is.tiers j) name tier) is.policies

  pub tier_gone_taken : (name : List ℕ) → IsTaken dg (after R (update.Delete (key.Tier name))) (without_tier name t)
  tier_gone_taken name = lists_taken (after R (update.Delete (key.Tier name))) refl refl refl refl refl (without_tier name t) (λ j. map.remove (is.tiers j) name) is.policies

  pub policy_put_taken : (id : PolicyId) (p : Policy) → IsTaken dg (after R (update.Put (key.Policy id) (item.Policy p))) (with_policy id p t)
  policy_put_taken id p = lists_taken (after R (update.Put (key.Policy id) (item.Policy p))) refl refl refl refl refl (with_policy id p t) is.tiers (λ j. map.insert (is.policies j) id p)

  pub policy_gone_taken : (id : PolicyId) → IsTaken dg (after R (update.Delete (key.Policy id))) (without_policy id t)
  policy_gone_taken id = lists_taken (after R (update.Delete (key.Policy id))) refl refl refl refl refl (without_policy id t) is.tiers (λ j. map.remove (is.policies j) id)
