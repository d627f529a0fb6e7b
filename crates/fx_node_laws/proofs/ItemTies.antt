-- What the nodes' inputs hold of the resources after an update of an endpoint or of a network set.
use Rattle.std.proofs.Common.{◌≡◌, ℕ, true, false, cond, List, Option, Some, None, refl, sym, ap, ◌∙◌}
use Rattle.std.specs.Prelude.{option_map}
use Rattle.std.specs.Ordering.{eq_by_cmp}
use Rattle.std.specs.FinMap as map
use Rattle.fx_names.specs.Digests.{Digest}
use Rattle.fx_model.proofs.Orders.{item_total, exact_item}
use Rattle.fx_model.specs.contracts.ids.ItemKeyOrd.TheImpl as item_cmp
use Rattle.fx_model.specs.declared.ids.ItemKey.{ItemKey}
use Rattle.fx_model.specs.declared.ids.ItemKey.TheVariants as item_key
use Rattle.fx_model.specs.declared.ids.Key.TheVariants as key
use Rattle.fx_model.specs.declared.policy.NetSet.{NetSet}
use Rattle.fx_model.specs.declared.resources.Endpoint.{Endpoint}
use Rattle.fx_model.specs.declared.resources.Item.{Item}
use Rattle.fx_model.specs.declared.resources.Item.TheVariants as item
use Rattle.fx_model.specs.declared.resources.Resources.{Resources}
use Rattle.fx_model.specs.declared.resources.Update.TheVariants as update
use Rattle.fx_model.specs.Formed.{is_endpoint_key, is_net_set_key}
use Rattle.fx_model.specs.Labels.{namespace_parents}
use Rattle.fx_model.specs.Resources.{after, is_served}
use Rattle.fx_model.specs.Tests.{item_at}
use Rattle.fx_label_index.specs.declared.held.Held.{Held}
use Rattle.fx_resolver.specs.declared.known.KnownEndpoint.{KnownEndpoint}
use Rattle.fx_node_laws.specs.Tied.{held_of, known_endpoint, served_profiles, served_known}
use Rattle.fx_node_laws.specs.Changes.{Taken, with_served_endpoint, with_other_endpoint, without_endpoint, with_net_set, without_net_set}
use Rattle.fx_node_laws.proofs.OneKey.{here_inserted, here_removed, there_inserted, there_removed, known_inserted, known_removed, keys_inserted, keys_removed}
use Rattle.fx_node_laws.proofs.ItemsAt.{same_item_at, same_profiles, same_known}
use Rattle.fx_node_laws.proofs.TakenTies.{IsTaken}

-- `q` is another key
abbrev IsOther : ItemKey → ItemKey → Type 0
IsOther k q = eq_by_cmp item_cmp.cmp-value.it q k ≡ false

module _ {dg : Digest} {R : Resources} {t : Taken} (is : IsTaken dg R t) where
  -- ---- the resources change at one key

  module _ (S : Resources) (k : ItemKey) (marks : S.in_sync ≡ R.in_sync) (nodes : S.node ≡ R.node)
      (endpoints_off : (q : ItemKey) → IsOther k q → map.get S.endpoints q ≡ map.get R.endpoints q)
      (sets_off : (q : ItemKey) → IsOther k q → map.get S.net_sets q ≡ map.get R.net_sets q) where
    item_off : (q : ItemKey) → IsOther k q → item_at S q ≡ item_at R q
    item_off q other = same_item_at R S q (endpoints_off q other) (sets_off q other)

    held_off : (q : ItemKey) → IsOther k q → held_of q (item_at S q) ≡ held_of q (item_at R q)
    held_off q other = ap (held_of q) (item_off q other)

    profiles_off : (q : ItemKey) → IsOther k q → served_profiles S (map.get S.endpoints q) ≡ served_profiles R (map.get R.endpoints q)
    profiles_off q other = ap (served_profiles S) (endpoints_off q other) ∙ same_profiles R S marks nodes (map.get R.endpoints q)

    known_off : (q : ItemKey) → IsOther k q → served_known dg S (map.get S.endpoints q) ≡ served_known dg R (map.get R.endpoints q)
    known_off q other = ap (served_known dg S) (endpoints_off q other) ∙ same_known R S marks nodes dg (map.get R.endpoints q)

    items_put : (x : Held) → held_of k (item_at S k) ≡ Some x → (q : ItemKey) → map.get (map.insert t.items k x) q ≡ held_of q (item_at S q)
    items_put x h = known_inserted item_total exact_item (λ q. held_of q (item_at R q)) (λ q. held_of q (item_at S q)) t.items k is.items held_off x h

    items_gone : item_at S k ≡ None → (q : ItemKey) → map.get (map.remove t.items k) q ≡ held_of q (item_at S q)
    items_gone h = known_removed item_total exact_item (λ q. held_of q (item_at R q)) (λ q. held_of q (item_at S q)) t.items k is.items held_off (ap (held_of k) h)

    contributors_put : (x : Item) → item_at S k ≡ Some x → (q : ItemKey) → map.get (map.insert t.contributors k x) q ≡ item_at S q
    contributors_put x h = known_inserted item_total exact_item (item_at R) (item_at S) t.contributors k is.contributors item_off x h

    contributors_gone : item_at S k ≡ None → (q : ItemKey) → map.get (map.remove t.contributors k) q ≡ item_at S q
    contributors_gone h = known_removed item_total exact_item (item_at R) (item_at S) t.contributors k is.contributors item_off h

    endpoints_put : (x : List (List ℕ)) → served_profiles S (map.get S.endpoints k) ≡ Some x → (q : ItemKey) → map.get (map.insert t.endpoints k x) q ≡ served_profiles S (map.get S.endpoints q)
    endpoints_put x h = known_inserted item_total exact_item (λ q. served_profiles R (map.get R.endpoints q)) (λ q. served_profiles S (map.get S.endpoints q)) t.endpoints k is.endpoints profiles_off x h

    endpoints_gone : served_profiles S (map.get S.endpoints k) ≡ None → (q : ItemKey) → map.get (map.remove t.endpoints k) q ≡ served_profiles S (map.get S.endpoints q)
    endpoints_gone h = known_removed item_total exact_item (λ q. served_profiles R (map.get R.endpoints q)) (λ q. served_profiles S (map.get S.endpoints q)) t.endpoints k is.endpoints profiles_off h

    locals_put : (x : KnownEndpoint) → served_known dg S (map.get S.endpoints k) ≡ Some x → (q : ItemKey) → map.get (map.insert t.locals k x) q ≡ served_known dg S (map.get S.endpoints q)
    locals_put x h = known_inserted item_total exact_item (λ q. served_known dg R (map.get R.endpoints q)) (λ q. served_known dg S (map.get S.endpoints q)) t.locals k is.locals known_off x h

    locals_gone : served_known dg S (map.get S.endpoints k) ≡ None → (q : ItemKey) → map.get (map.remove t.locals k) q ≡ served_known dg S (map.get S.endpoints q)
    locals_gone h = known_removed item_total exact_item (λ q. served_known dg R (map.get R.endpoints q)) (λ q. served_known dg S (map.get S.endpoints q)) t.locals k is.locals known_off h

  -- ---- endpoints

  module _ (ns name : List ℕ) where
    module _ (e : Endpoint) where
      abbrev endpoint_put : Resources
      endpoint_put = after R (update.Put (key.Item (item_key.Endpoint ns name)) (item.Endpoint e))

      put_off : (q : ItemKey) → IsOther (item_key.Endpoint ns name) q → map.get endpoint_put.endpoints q ≡ map.get R.endpoints q
      put_off = there_inserted item_total exact_item R.endpoints (item_key.Endpoint ns name) e

      put_here : map.get endpoint_put.endpoints (item_key.Endpoint ns name) ≡ Some e
      put_here = here_inserted item_total exact_item R.endpoints (item_key.Endpoint ns name) e

      put_item : item_at endpoint_put (item_key.Endpoint ns name) ≡ Some (item.Endpoint e)
      put_item = ap (λ o. option_map item.Endpoint o) put_here

      pub put_served_taken : is_served R e ≡ true → IsTaken dg endpoint_put (with_served_endpoint dg ns name e t)
      put_served_taken served = record {
        kinds_endpoints = keys_inserted item_total exact_item (λ q. is_endpoint_key (key.Item q) ≡ true) R.endpoints (item_key.Endpoint ns name) e refl is.kinds_endpoints;
        kinds_sets = is.kinds_sets;
        items = items_put endpoint_put (item_key.Endpoint ns name) refl refl put_off (λ q _. refl) (record { labels = e.labels; parents = e.profiles }) (ap (held_of (item_key.Endpoint ns name)) put_item);
        parents = is.parents;
        policies = is.policies;
        profiles = is.profiles;
        endpoints = endpoints_put endpoint_put (item_key.Endpoint ns name) refl refl put_off (λ q _. refl) e.profiles (ap (served_profiles endpoint_put) put_here ∙ ap (λ b. cond b (Some e.profiles) None) served);
        tiers = is.tiers;
        locals = locals_put endpoint_put (item_key.Endpoint ns name) refl refl put_off (λ q _. refl) (known_endpoint dg e) (ap (served_known dg endpoint_put) put_here ∙ ap (λ b. cond b (Some (known_endpoint dg e)) None) served);
        contributors = contributors_put endpoint_put (item_key.Endpoint ns name) refl refl put_off (λ q _. refl) (item.Endpoint e) put_item;
      }

      pub put_other_taken : is_served R e ≡ false → IsTaken dg endpoint_put (with_other_endpoint ns name e t)
      put_other_taken unserved = record {
        kinds_endpoints = keys_inserted item_total exact_item (λ q. is_endpoint_key (key.Item q) ≡ true) R.endpoints (item_key.Endpoint ns name) e refl is.kinds_endpoints;
        kinds_sets = is.kinds_sets;
        items = items_put endpoint_put (item_key.Endpoint ns name) refl refl put_off (λ q _. refl) (record { labels = e.labels; parents = e.profiles }) (ap (held_of (item_key.Endpoint ns name)) put_item);
        parents = is.parents;
        policies = is.policies;
        profiles = is.profiles;
        endpoints = endpoints_gone endpoint_put (item_key.Endpoint ns name) refl refl put_off (λ q _. refl) (ap (served_profiles endpoint_put) put_here ∙ ap (λ b. cond b (Some e.profiles) None) unserved);
        tiers = is.tiers;
        locals = locals_gone endpoint_put (item_key.Endpoint ns name) refl refl put_off (λ q _. refl) (ap (served_known dg endpoint_put) put_here ∙ ap (λ b. cond b (Some (known_endpoint dg e)) None) unserved);
        contributors = contributors_put endpoint_put (item_key.Endpoint ns name) refl refl put_off (λ q _. refl) (item.Endpoint e) put_item;
      }

    abbrev endpoint_gone : Resources
    endpoint_gone = after R (update.Delete (key.Item (item_key.Endpoint ns name)))

    gone_off : (q : ItemKey) → IsOther (item_key.Endpoint ns name) q → map.get endpoint_gone.endpoints q ≡ map.get R.endpoints q
    gone_off = there_removed item_total exact_item R.endpoints (item_key.Endpoint ns name)

    gone_here : map.get endpoint_gone.endpoints (item_key.Endpoint ns name) ≡ None
    gone_here = here_removed item_total exact_item R.endpoints (item_key.Endpoint ns name)

    gone_item : item_at endpoint_gone (item_key.Endpoint ns name) ≡ None
    gone_item = ap (λ o. option_map item.Endpoint o) gone_here

    pub endpoint_gone_taken : IsTaken dg endpoint_gone (without_endpoint ns name t)
    endpoint_gone_taken = record {
      kinds_endpoints = keys_removed item_total exact_item (λ q. is_endpoint_key (key.Item q) ≡ true) R.endpoints (item_key.Endpoint ns name) is.kinds_endpoints;
      kinds_sets = is.kinds_sets;
      items = items_gone endpoint_gone (item_key.Endpoint ns name) refl refl gone_off (λ q _. refl) gone_item;
      parents = is.parents;
      policies = is.policies;
      profiles = is.profiles;
      endpoints = endpoints_gone endpoint_gone (item_key.Endpoint ns name) refl refl gone_off (λ q _. refl) (ap (served_profiles endpoint_gone) gone_here);
      tiers = is.tiers;
      locals = locals_gone endpoint_gone (item_key.Endpoint ns name) refl refl gone_off (λ q _. refl) (ap (served_known dg endpoint_gone) gone_here);
      contributors = contributors_gone endpoint_gone (item_key.Endpoint ns name) refl refl gone_off (λ q _. refl) gone_item;
    }

  -- ---- network sets

  module _ (ns : Option (List ℕ)) (name : List ℕ) where
    -- no endpoint has a network set's key
    pub no_endpoint : map.get R.endpoints (item_key.NetSet ns name) ≡ None
    no_endpoint = by_cases (map.get R.endpoints (item_key.NetSet ns name)) refl
      where
        by_cases : (o : Option Endpoint) → map.get R.endpoints (item_key.NetSet ns name) ≡ o → o ≡ None
        by_cases None h = refl
        by_cases (Some e) h = let wrong : false ≡ true = is.kinds_endpoints (item_key.NetSet ns name) e h in cc

    module _ (s : NetSet) where
      abbrev set_put : Resources
      set_put = after R (update.Put (key.Item (item_key.NetSet ns name)) (item.NetSet s))

      set_put_off : (q : ItemKey) → IsOther (item_key.NetSet ns name) q → map.get set_put.net_sets q ≡ map.get R.net_sets q
      set_put_off = there_inserted item_total exact_item R.net_sets (item_key.NetSet ns name) s

      set_put_item : item_at set_put (item_key.NetSet ns name) ≡ Some (item.NetSet s)
      set_put_item = ap (λ o. option_map item.NetSet o) (here_inserted item_total exact_item R.net_sets (item_key.NetSet ns name) s)

      pub net_set_put_taken : IsTaken dg set_put (with_net_set ns name s t)
      net_set_put_taken = record {
        kinds_endpoints = is.kinds_endpoints;
        kinds_sets = keys_inserted item_total exact_item (λ q. is_net_set_key (key.Item q) ≡ true) R.net_sets (item_key.NetSet ns name) s refl is.kinds_sets;
        items = items_put set_put (item_key.NetSet ns name) refl refl (λ q _. refl) set_put_off (record { labels = s.labels; parents = namespace_parents ns }) (ap (held_of (item_key.NetSet ns name)) set_put_item);
        parents = is.parents;
        policies = is.policies;
        profiles = is.profiles;
        endpoints = endpoints_gone set_put (item_key.NetSet ns name) refl refl (λ q _. refl) set_put_off (ap (served_profiles set_put) no_endpoint);
        tiers = is.tiers;
        locals = λ q. is.locals q ∙ sym (same_known R set_put refl refl dg (map.get R.endpoints q));
        contributors = contributors_put set_put (item_key.NetSet ns name) refl refl (λ q _. refl) set_put_off (item.NetSet s) set_put_item;
      }

    abbrev set_gone : Resources
    set_gone = after R (update.Delete (key.Item (item_key.NetSet ns name)))

    set_gone_off : (q : ItemKey) → IsOther (item_key.NetSet ns name) q → map.get set_gone.net_sets q ≡ map.get R.net_sets q
    set_gone_off = there_removed item_total exact_item R.net_sets (item_key.NetSet ns name)

    set_gone_item : item_at set_gone (item_key.NetSet ns name) ≡ None
    set_gone_item = ap (λ o. option_map item.NetSet o) (here_removed item_total exact_item R.net_sets (item_key.NetSet ns name))

    pub net_set_gone_taken : IsTaken dg set_gone (without_net_set ns name t)
    net_set_gone_taken = record {
      kinds_endpoints = is.kinds_endpoints;
      kinds_sets = keys_removed item_total exact_item (λ q. is_net_set_key (key.Item q) ≡ true) R.net_sets (item_key.NetSet ns name) is.kinds_sets;
      items = items_gone set_gone (item_key.NetSet ns name) refl refl (λ q _. refl) set_gone_off set_gone_item;
      parents = is.parents;
      policies = is.policies;
      profiles = is.profiles;
      endpoints = endpoints_gone set_gone (item_key.NetSet ns name) refl refl (λ q _. refl) set_gone_off (ap (served_profiles set_gone) no_endpoint);
      tiers = is.tiers;
      locals = λ q. is.locals q ∙ sym (same_known R set_gone refl refl dg (map.get R.endpoints q));
      contributors = contributors_gone set_gone (item_key.NetSet ns name) refl refl (λ q _. refl) set_gone_off set_gone_item;
    }
