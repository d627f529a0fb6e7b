-- What waits after each update, and what becomes of it once the datastore is in sync.
use Rattle.std.proofs.Common.{◌≡◌, ℕ, Bool, true, false, not, cond, ◌&&◌, List, Option, Some, None, refl, sym, ap, ◌∙◌}
use Rattle.std.specs.Prelude.{option_map}
use Rattle.std.specs.Ordering.{eq_by_cmp}
use Rattle.std.specs.Str.{bytes_eq}
use Rattle.std.specs.FinMap as map
use Rattle.fx_names.specs.Digests.{Digest}
use Rattle.fx_model.proofs.Orders.{item_total, exact_item}
use Rattle.fx_model.specs.contracts.ids.ItemKeyOrd.TheImpl as item_cmp
use Rattle.fx_model.specs.declared.ids.ItemKey.{ItemKey}
use Rattle.fx_model.specs.declared.resources.Endpoint.{Endpoint}
use Rattle.fx_model.specs.declared.resources.Resources.{Resources}
use Rattle.fx_model.specs.declared.resources.Update.TheVariants as update
use Rattle.fx_model.specs.Resources.{after, empty_resources, is_local, is_served}
use Rattle.fx_active.specs.declared.inputs.Inputs as active
use Rattle.fx_label_index.specs.declared.held.Inputs as index
use Rattle.fx_resolver.specs.declared.inputs.Inputs as resolver
use Rattle.fx_members.specs.declared.inputs.Inputs as members
use Rattle.fx_model.specs.declared.waiting.Waiting.{Waiting}
use Rattle.fx_node_laws.specs.Tied.{known_endpoint, served_profiles, served_known, IsTied}
use Rattle.fx_node_laws.specs.Waits.{waiting_of, waits, waiting_if, known_waiting, Queue, AreWaiting, with_waiting}
use Rattle.fx_node_laws.specs.Changes.{taken, with_endpoints}
use Rattle.fx_node_laws.proofs.Brought.{brought}
use Rattle.fx_node_laws.proofs.UpdateTies.{in_sync_tied}
use Rattle.fx_node_laws.proofs.OneKey.{here_inserted, here_removed, there_inserted, there_removed, known_inserted, known_removed}

-- the same waits where the node is the same, and whether the datastore is in sync
same_waiting : (R S : Resources) → S.in_sync ≡ R.in_sync → S.node ≡ R.node → (o : Option Endpoint) → waiting_if S o ≡ waiting_if R o
same_waiting R S marks nodes None = refl
same_waiting R S marks nodes (Some e) = λ j. cond (not (marks j) && bytes_eq e.node (nodes j)) (Some (waiting_of e)) None

-- and nothing where the datastore is in sync
none_in_sync : (R : Resources) → R.in_sync ≡ true → (o : Option Endpoint) → waiting_if R o ≡ None
none_in_sync R h None = refl
none_in_sync R h (Some e) = ap (λ b. cond (not b && is_local R e) (Some (waiting_of e)) None) h

pub none_waits_at_first : (node : List ℕ) → AreWaiting (empty_resources node) map.empty
none_waits_at_first node k = map.get-empty item_cmp.cmp-value.it k ∙ sym (ap (waiting_if (empty_resources node)) (map.get-empty item_cmp.cmp-value.it k))

pub none_waits_in_sync : (R : Resources) → R.in_sync ≡ true → AreWaiting R map.empty
none_waits_in_sync R h k = map.get-empty item_cmp.cmp-value.it k ∙ sym (none_in_sync R h (map.get R.endpoints k))

-- and so it stays
pub waiting_in_sync : (R S : Resources) → R.in_sync ≡ true → S.in_sync ≡ true → (w : Queue) → AreWaiting R w → AreWaiting S w
waiting_in_sync R S before now w is k = is k ∙ none_in_sync R before (map.get R.endpoints k) ∙ sym (none_in_sync S now (map.get S.endpoints k))

-- no endpoint is served and waits
pub served_waits_not : (R : Resources) (e : Endpoint) → is_served R e ≡ true → waits R e ≡ false
served_waits_not R e h = not_both R.in_sync h
  where
    not_both : (b : Bool) → (b && is_local R e) ≡ true → (not b && is_local R e) ≡ false
    not_both true g = refl
    not_both false g = cc

-- once the datastore is in sync nothing waits
pub none_waits_after_in_sync : (R : Resources) → AreWaiting (after R update.InSync) map.empty
none_waits_after_in_sync R = none_waits_in_sync (after R update.InSync) refl

-- an update that leaves endpoints, node and whether the datastore is in sync as they are
pub waiting_stays : (R S : Resources) → S.in_sync ≡ R.in_sync → S.node ≡ R.node → S.endpoints ≡ R.endpoints → (w : Queue) → AreWaiting R w → AreWaiting S w
waiting_stays R S marks nodes endpoints w is k = is k ∙ sym (same_waiting R S marks nodes (map.get R.endpoints k)) ∙ (λ j. waiting_if S (map.get (sym endpoints j) k))

module _ (R : Resources) (w : Queue) (is : AreWaiting R w) where
  module _ (k : ItemKey) (e : Endpoint) where
    abbrev put : Resources
    put = record R { endpoints = map.insert R.endpoints k e }

    put_off : (q : ItemKey) → eq_by_cmp item_cmp.cmp-value.it q k ≡ false → waiting_if put (map.get put.endpoints q) ≡ waiting_if R (map.get R.endpoints q)
    put_off q other = ap (waiting_if put) (there_inserted item_total exact_item R.endpoints k e q other) ∙ same_waiting R put refl refl (map.get R.endpoints q)

    -- an endpoint that waits is put
    pub waiting_put : waits R e ≡ true → AreWaiting put (map.insert w k (waiting_of e))
    waiting_put h = known_inserted item_total exact_item (λ q. waiting_if R (map.get R.endpoints q)) (λ q. waiting_if put (map.get put.endpoints q)) w k is put_off (waiting_of e)
        (ap (waiting_if put) (here_inserted item_total exact_item R.endpoints k e) ∙ ap (λ b. cond b (Some (waiting_of e)) None) h)

    -- and one that doesn't
    pub other_put : waits R e ≡ false → AreWaiting put (map.remove w k)
    other_put h = known_removed item_total exact_item (λ q. waiting_if R (map.get R.endpoints q)) (λ q. waiting_if put (map.get put.endpoints q)) w k is put_off
        (ap (waiting_if put) (here_inserted item_total exact_item R.endpoints k e) ∙ ap (λ b. cond b (Some (waiting_of e)) None) h)

  module _ (k : ItemKey) where
    abbrev gone : Resources
    gone = record R { endpoints = map.remove R.endpoints k }

    gone_off : (q : ItemKey) → eq_by_cmp item_cmp.cmp-value.it q k ≡ false → waiting_if gone (map.get gone.endpoints q) ≡ waiting_if R (map.get R.endpoints q)
    gone_off q other = ap (waiting_if gone) (there_removed item_total exact_item R.endpoints k q other) ∙ same_waiting R gone refl refl (map.get R.endpoints q)

    pub waiting_gone : AreWaiting gone (map.remove w k)
    waiting_gone = known_removed item_total exact_item (λ q. waiting_if R (map.get R.endpoints q)) (λ q. waiting_if gone (map.get gone.endpoints q)) w k is gone_off
        (ap (waiting_if gone) (here_removed item_total exact_item R.endpoints k))

  -- ---- in sync

  module _ (h : R.in_sync ≡ false) where
    waiting_profiles : (o : Option Endpoint) → option_map (λ (x : Waiting). x.profiles) (waiting_if R o) ≡ served_profiles (after R update.InSync) o
    waiting_profiles None = refl
    waiting_profiles (Some e) =
        ap (λ b. option_map (λ (x : Waiting). x.profiles) (cond (not b && is_local R e) (Some (waiting_of e)) None)) h
        ∙ elim (is_local R e) as (λ b. option_map (λ (x : Waiting). x.profiles) (cond b (Some (waiting_of e)) None) ≡ cond b (Some e.profiles) None) [ true ↦ refl | false ↦ refl ]

    waiting_known : (dg : Digest) (o : Option Endpoint) → option_map (known_waiting dg) (waiting_if R o) ≡ served_known dg (after R update.InSync) o
    waiting_known dg None = refl
    waiting_known dg (Some e) =
        ap (λ b. option_map (known_waiting dg) (cond (not b && is_local R e) (Some (waiting_of e)) None)) h
        ∙ elim (is_local R e) as (λ b. option_map (known_waiting dg) (cond b (Some (waiting_of e)) None) ≡ cond b (Some (known_endpoint dg e)) None) [ true ↦ refl | false ↦ refl ]

    -- what waited is what is served in sync
    pub in_sync_serves_profiles : (k : ItemKey) → option_map (λ (x : Waiting). x.profiles) (map.get w k) ≡ served_profiles (after R update.InSync) (map.get R.endpoints k)
    in_sync_serves_profiles k = ap (λ o. option_map (λ (x : Waiting). x.profiles) o) (is k) ∙ waiting_profiles (map.get R.endpoints k)

    pub in_sync_serves_known : (dg : Digest) (k : ItemKey) → option_map (known_waiting dg) (map.get w k) ≡ served_known dg (after R update.InSync) (map.get R.endpoints k)
    in_sync_serves_known dg k = ap (λ o. option_map (known_waiting dg) o) (is k) ∙ waiting_known dg (map.get R.endpoints k)

-- nothing is served before the datastore is in sync
module _ {dg : Digest} {R : Resources} {n : index.Inputs} {a : active.Inputs} {r : resolver.Inputs} {m : members.Inputs} (tied : IsTied dg R n a r m) (h : R.in_sync ≡ false) where
  unserved_profiles : (o : Option Endpoint) → served_profiles R o ≡ None
  unserved_profiles None = refl
  unserved_profiles (Some e) = ap (λ b. cond (b && is_local R e) (Some e.profiles) None) h

  unserved_known : (o : Option Endpoint) → served_known dg R o ≡ None
  unserved_known None = refl
  unserved_known (Some e) = ap (λ b. cond (b && is_local R e) (Some (known_endpoint dg e)) None) h

  pub no_endpoints_yet : a.endpoints ≡ map.empty
  no_endpoints_yet = map.same_map item_total exact_item _ _ (λ k. tied.endpoints k ∙ unserved_profiles (map.get R.endpoints k) ∙ sym (map.get-empty item_cmp.cmp-value.it k))

  pub no_locals_yet : r.endpoints ≡ map.empty
  no_locals_yet = map.same_map item_total exact_item _ _ (λ k. tied.locals k ∙ unserved_known (map.get R.endpoints k) ∙ sym (map.get-empty item_cmp.cmp-value.it k))

  -- so all that waits is put, one after another
  module _ (w : Queue) (is : AreWaiting R w) {n_now : index.Inputs} {a_now : active.Inputs} {r_now : resolver.Inputs} {m_now : members.Inputs} where
    pub in_sync_brings : taken n_now a_now r_now m_now ≡ with_waiting dg w (taken n a r m) → IsTied dg (after R update.InSync) n_now a_now r_now m_now
    in_sync_brings now =
        let endpoints = λ (k : ItemKey). (λ j. map.get ((now j).endpoints) k) ∙ brought item_total exact_item (λ (x : Waiting). x.profiles) a.endpoints no_endpoints_yet w k ∙ in_sync_serves_profiles R w is h k in
        let locals = λ (k : ItemKey). (λ j. map.get ((now j).locals) k) ∙ brought item_total exact_item (known_waiting dg) r.endpoints no_locals_yet w k ∙ in_sync_serves_known R w is h dg k in
        in_sync_tied tied endpoints locals (now ∙ (λ j. with_endpoints ((sym now j).endpoints) ((sym now j).locals) (taken n a r m)))
