-- Once the datastore is in sync, all endpoints of the node that wait come into service.
use Rattle.std.proofs.Common.{◌≡◌, ◌≤◌, Bool, true, false, cond, inl, inr, length, map as each, Option, Some, None, refl, sym, ap, ◌∙◌, subst}
use Rattle.std.proofs.lemmas.Bool.{leb-true}
use Rattle.std.specs.FinMap as map
use Rattle.fx_base.specs.Extended.{extended}
use Rattle.fx_base.proofs.Entries.{entries-empty}
use Rattle.std.specs.Prelude.{option_map}
use Rattle.fx_base.specs.Same.{both_pass}
use Rattle.fx_names.specs.Digests.{Digest}
use Rattle.fx_model.proofs.Orders.{item_total, exact_item}
use Rattle.fx_model.specs.Formed.{are_formed, is_endpoint_key, is_formed_endpoint, is_formed_endpoint_entry, is_formed_item, is_formed_item_key}
use Rattle.fx_model.specs.Resources.{after}
use Rattle.fx_model.specs.contracts.ids.ItemKeyOrd.TheImpl as item_cmp
use Rattle.fx_model.specs.declared.ids.ItemKey.{ItemKey}
use Rattle.fx_model.specs.declared.ids.Key.TheVariants as key
use Rattle.fx_model.specs.declared.resources.Endpoint.{Endpoint}
use Rattle.fx_model.specs.declared.resources.Item.TheVariants as item
use Rattle.fx_model.specs.declared.resources.Resources.{Resources}
use Rattle.fx_model.specs.declared.resources.Update.TheVariants as update
use Rattle.fx_resolver.specs.declared.known.KnownEndpoint.{KnownEndpoint}
use Rattle.fx_laws.proofs.FormedLemmas.{endpoints_formed}
use Rattle.fx_laws.proofs.Removing.{found_passes}
use Rattle.fx_node_laws.specs.Changes.{Taken}
use Rattle.fx_node_laws.specs.Waits.{AreWaiting, known_waiting, waiting_if, waiting_of, waits, with_waiting}
use Rattle.fx_model.specs.declared.waiting.Waiting.{Waiting}
use Rattle.fx_node_laws.proofs.TakenTies.{IsTaken, taken_is, tied_by}
use Rattle.fx_node_laws.proofs.UpdateTies.{second_in_sync}
use Rattle.fx_node_laws.proofs.Brought.{brought}
use Rattle.fx_node_laws.proofs.WaitTies.{in_sync_brings, no_locals_yet, none_waits_in_sync, none_waits_after_in_sync}
use Rattle.fx_graph.specs.Graphs.{IsGraphOf, IsAccepted}
use Rattle.fx_graph.specs.InStep.{IsInStep}
use Rattle.fx_graph.specs.Taking.{AreApart, AreOwnTogether, AreShort, IsThereOrWaits, taken_of}
use Rattle.fx_graph.specs.declared.nodes.Nodes.{Nodes}
use Rattle.fx_graph.specs.declared.state.GraphState.{GraphState}
use Rattle.fx_graph.proofs.Agreeing.{graph_of}
use Rattle.fx_graph.proofs.Named.{apart_of, own_of}

no_item : (x : Waiting) → None ≡ Some x → ⊥
no_item x e = cc

no_known : (x : KnownEndpoint) → None ≡ Some x → ⊥
no_known x e = cc

the_item : (x y : Waiting) → Some x ≡ Some y → x ≡ y
the_item x y e = cc

-- where nothing waits, nothing is brought
nothing_brought : (dg : Digest) (t : Taken) → with_waiting dg map.empty t ≡ t
nothing_brought dg t = λ j. record t {
  endpoints = extended t.endpoints (each (λ x. (x.0, x.1.profiles)) (entries-empty {X = Waiting} item_cmp.cmp-value.it j));
  locals = extended t.locals (each (λ x. (x.0, known_waiting dg x.1)) (entries-empty {X = Waiting} item_cmp.cmp-value.it j));
}

module _ (dg : Digest) (R : Resources) (old : GraphState) (h : IsGraphOf dg R old) where
  abbrev g : Nodes
  g = old.nodes

  abbrev synced : Resources
  synced = after R update.InSync

  none_waits : R.in_sync ≡ true → g.waiting ≡ map.empty
  none_waits ready = map.same_map item_total exact_item g.waiting map.empty (λ k. h.nodes.waiting k ∙ sym (none_waits_in_sync R ready k))

  taken_in_sync : (b : Bool) → R.in_sync ≡ b → IsTaken dg synced (with_waiting dg g.waiting (taken_of g))
  taken_in_sync true ready =
      subst (λ w. IsTaken dg synced (with_waiting dg w (taken_of g))) (sym (none_waits ready))
      (subst (IsTaken dg synced) (sym (nothing_brought dg (taken_of g))) (subst (λ S. IsTaken dg S (taken_of g)) (sym (second_in_sync R ready)) (taken_is h.nodes.tied)))
  taken_in_sync false unready =
      taken_is (in_sync_brings h.nodes.tied unready g.waiting h.nodes.waiting
      {n_now = g.upper.joined.index}
      {a_now = record g.upper.joined.active { endpoints = (with_waiting dg g.waiting (taken_of g)).endpoints }}
      {r_now = record g.resolver { endpoints = (with_waiting dg g.waiting (taken_of g)).locals }}
      {m_now = g.members} refl)

  pub after_in_sync : (g_now : Nodes) → IsInStep dg None g_now → taken_of g_now ≡ with_waiting dg g.waiting (taken_of g) → g_now.waiting ≡ map.empty → IsGraphOf dg synced (record old { nodes = g_now; in_sync = true })
  after_in_sync g_now settled now waiting = graph_of dg (record old { nodes = g_now; in_sync = true }) settled synced h.node refl
      (tied_by (with_waiting dg g.waiting (taken_of g)) now (taken_in_sync R.in_sync refl))
      (subst (AreWaiting synced) (sym waiting) (none_waits_after_in_sync R))

  pub in_sync_apart : IsAccepted dg R update.InSync → AreApart dg (with_waiting dg g.waiting (taken_of g))
  in_sync_apart a = apart_of dg synced _ a.formed a.apart (taken_in_sync R.in_sync refl)

  -- whatever is there or waits is there afterwards
  there_after : (b : Bool) → R.in_sync ≡ b → (k : ItemKey) (e : KnownEndpoint) → IsThereOrWaits dg g.waiting (taken_of g) k e → map.get (with_waiting dg g.waiting (taken_of g)).locals k ≡ Some e
  there_after true ready k e (inl at) = ap (λ w. map.get (with_waiting dg w (taken_of g)).locals k) (none_waits ready) ∙ ap (λ (u : Taken). map.get u.locals k) (nothing_brought dg (taken_of g)) ∙ at
  there_after true ready k e (inr x) = absurd (no_item x.0 (sym (map.get-empty item_cmp.cmp-value.it k) ∙ ap (λ w. map.get w k) (sym (none_waits ready)) ∙ x.1.0))
  there_after false unready k e (inl at) = absurd (no_known e (sym (map.get-empty item_cmp.cmp-value.it k) ∙ ap (λ m. map.get m k) (sym (no_locals_yet h.nodes.tied unready)) ∙ at))
  there_after false unready k e (inr x) =
      brought item_total exact_item (known_waiting dg) g.resolver.endpoints (no_locals_yet h.nodes.tied unready) g.waiting k
      ∙ ap (option_map (known_waiting dg)) x.1.0 ∙ ap Some x.1.1

  pub in_sync_own : IsAccepted dg R update.InSync → AreOwnTogether dg g.waiting (taken_of g)
  in_sync_own a i j e f p q same =
      own_of dg synced _ a.formed a.apart (taken_in_sync R.in_sync refl) i j e f (there_after R.in_sync refl i e p) (there_after R.in_sync refl j f q) same

  short_one : (k : ItemKey) (x : Waiting) (o : Option Endpoint) → map.get R.endpoints k ≡ o → waiting_if R o ≡ Some x → are_formed R ≡ true → length x.iface ≤ 15
  short_one k x None at e formed = absurd (no_item x e)
  short_one k x (Some d) at e formed = elim (waits R d) as (λ b. cond b (Some (waiting_of d)) None ≡ Some x → length x.iface ≤ 15) [
    | false ↦ λ p. absurd (no_item x p)
    | true ↦ λ p.
        let entry = found_passes item_total exact_item is_formed_endpoint_entry R.endpoints (endpoints_formed R formed) k d at in
        let formed_item = (both_pass (is_formed_item_key k) (is_formed_item (key.Item k) (item.Endpoint d)) entry).1 in
        subst (λ i. length i.iface ≤ 15) (the_item (waiting_of d) x p) (leb-true (length d.iface) 15 (both_pass (is_endpoint_key (key.Item k)) (is_formed_endpoint d) formed_item).1)
  ] e

  pub in_sync_short : IsAccepted dg R update.InSync → AreShort g.waiting
  in_sync_short a k x at = short_one k x (map.get R.endpoints k) refl (sym (h.nodes.waiting k) ∙ at) a.formed
