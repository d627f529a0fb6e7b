-- What the wanted view says of a first packet of a process is what the resources say.
use Rattle.std.proofs.Common.{◌≡◌, ℕ, Bool, true, false, cond, List, [], ◌∷◌, ◌++◌, map, filter, Option, Some, None, refl, sym, ap, ◌∙◌}
use Rattle.std.specs.Prelude.{T}
use Rattle.std.specs.List.{AllByRecursion, list_any}
use Rattle.std.specs.Str.{bytes_eq}
use Rattle.std.specs.Cmp.Lexicographic.{nat_list_cmp_total, texts_ties}
use Rattle.std.specs.FinMap as maps
use Rattle.std.specs.FinMap.Entries.{below_all}
use Rattle.std.proofs.lemmas.Bool.{or_left, or_right}
use Rattle.std.proofs.lemmas.List.Folds.{list_any-append}
use Rattle.fx_base.proofs.Found.{entries_found}
use Rattle.fx_base.specs.Same.{same_bytes}
use Rattle.fx_names.specs.Digests.{Digest}
use Rattle.fx_model.proofs.Orders.{item_total}
use Rattle.fx_model.specs.contracts.ids.ItemKeyOrd.TheImpl.{cmp-value}
use Rattle.fx_model.specs.declared.ids.ItemKey.{ItemKey}
use Rattle.fx_model.specs.declared.packet.Packet.{Packet}
use Rattle.fx_model.specs.declared.resources.Endpoint.{Endpoint}
use Rattle.fx_model.specs.declared.resources.Resources.{Resources}
use Rattle.fx_model.specs.declared.view.ViewEndpoint.{ViewEndpoint}
use Rattle.fx_model.specs.Directions.{Direction}
use Rattle.fx_model.specs.Policy.{endpoint_verdict, with_iface}
use Rattle.fx_model.specs.Resources.{is_served, served_endpoints}
use Rattle.fx_model.specs.ViewPolicy.{view_endpoint_verdict}
use Rattle.fx_model.specs.Views.{view_of, view_endpoint, endpoint_entry}
use Rattle.fx_laws.proofs.EntryLookups.{is, last, get-collected, first, second}
use Rattle.fx_laws.proofs.TiersClosed.{activates}
use Rattle.fx_walk.specs.Serving.{IsServedApart}
use Rattle.fx_walk.proofs.Wanted.{AllThere, Within, Activates, endpoint_same, names_of, not_itself, none_alike}
use Rattle.fx_hostep.specs.declared.failsafe.Failsafe.{Failsafe}
use Rattle.fx_hostep.specs.FailsafePorts.{is_failsafe}
use Rattle.fx_hostep.specs.HostRuns.{if_host, view_host_answer, view_host_verdict}
use Rattle.fx_hostep.specs.HostVerdict.{is_host_key, by_ports, host_answer, host_verdict}

module _ (dg : Digest) (R : Resources) (f : Failsafe) (d : Direction) (a : Packet) (servable : IsServedApart dg R) where
  abbrev served : List (ItemKey × Endpoint) → List (ItemKey × Endpoint)
  served es = filter (λ x. is_served R x.1) es

  abbrev hosts : List (ItemKey × Endpoint) → List (ItemKey × Endpoint)
  hosts xs = filter (λ x. is_host_key x.0) xs

  -- no endpoint behind another has its interface
  none_behind : (k : ItemKey) (e : Endpoint) (es : List (ItemKey × Endpoint)) → maps.get R.endpoints k ≡ Some e → is_served R e ≡ true → T (below_all cmp-value.it k es) → AllThere R.endpoints es → with_iface (hosts (served es)) e.iface ≡ None
  none_behind k e [] at s below there = refl
  none_behind k e (x ∷ es) at s below there = by_served (none_behind k e es at s (second _ _ below) there.1) (is_served R x.1) refl
    where
      by_iface : with_iface (hosts (served es)) e.iface ≡ None → is_served R x.1 ≡ true → (b : Bool) → bytes_eq e.iface x.1.iface ≡ b → ◌≡◌ {A = Option Endpoint} (elim b [ true ↦ Some x.1 | false ↦ with_iface (hosts (served es)) e.iface ]) None
      by_iface rest t true same = absurd (not_itself dg R a servable k x.0 (servable.apart k x.0 e x.1 at there.0 s t (same_bytes e.iface x.1.iface same)) (first _ _ below))
      by_iface rest t false same = rest

      by_host : with_iface (hosts (served es)) e.iface ≡ None → is_served R x.1 ≡ true → (h : Bool) → with_iface (cond h (x ∷ hosts (served es)) (hosts (served es))) e.iface ≡ None
      by_host rest t true = by_iface rest t (bytes_eq e.iface x.1.iface) refl
      by_host rest t false = rest

      by_served : with_iface (hosts (served es)) e.iface ≡ None → (b : Bool) → is_served R x.1 ≡ b → with_iface (hosts (cond b (x ∷ served es) (served es))) e.iface ≡ None
      by_served rest true t = by_host rest t (is_host_key x.0)
      by_served rest false t = rest

  -- of these endpoints the view and the resources say one at an interface
  abbrev IsAlikeAt : List ℕ → List (ItemKey × Endpoint) → Type 0
  IsAlikeAt iface xs =
      Within dg R a (names_of dg R a xs) → AllByRecursion (λ x. Activates dg R a x.1) xs
      → view_host_answer (view_of dg R) f d a (last (map (endpoint_entry dg R) xs) iface None) ≡ host_answer R f d a (with_iface (hosts xs) iface)

  -- the endpoint of the interface, a host's or not
  same_here : (x : ItemKey × Endpoint) (xs : List (ItemKey × Endpoint)) (iface : List ℕ) → bytes_eq iface x.1.iface ≡ true → with_iface xs iface ≡ None → view_endpoint_verdict (view_of dg R) d (view_endpoint dg R x.0 x.1) a ≡ endpoint_verdict R d x.1 a
      → (h : Bool) → if_host h (by_ports (is_failsafe f d a) (view_endpoint_verdict (view_of dg R) d (view_endpoint dg R x.0 x.1) a)) ≡ host_answer R f d a (with_iface (cond h (x ∷ xs) xs) iface)
  same_here x xs iface same none alike true =
      ap (by_ports (is_failsafe f d a)) alike
      ∙ ap (λ b. host_answer R f d a (elim b [ true ↦ Some x.1 | false ↦ with_iface xs iface ])) (sym same)
  same_here x xs iface same none alike false = ap (host_answer R f d a) (sym none)

  -- an endpoint of another interface
  other_here : (x : ItemKey × Endpoint) (xs : List (ItemKey × Endpoint)) (iface : List ℕ) → bytes_eq iface x.1.iface ≡ false → (h : Bool) → host_answer R f d a (with_iface (cond h (x ∷ xs) xs) iface) ≡ host_answer R f d a (with_iface xs iface)
  other_here x xs iface other true = ap (λ b. host_answer R f d a (elim b [ true ↦ Some x.1 | false ↦ with_iface xs iface ])) other
  other_here x xs iface other false = refl

  alike_at : (iface : List ℕ) (es : List (ItemKey × Endpoint)) → T (maps.is_sorted cmp-value.it es) → AllThere R.endpoints es → IsAlikeAt iface (served es)
  alike_at iface [] sorted there within active = refl
  alike_at iface (x ∷ es) sorted there within active = by_served (λ w v. alike_at iface es (second _ _ sorted) there.1 w v) (is_served R x.1) refl within active
    where
      entries : List (List ℕ × ViewEndpoint)
      entries = map (endpoint_entry dg R) (served es)

      shown : ViewEndpoint
      shown = view_endpoint dg R x.0 x.1

      by_iface : IsAlikeAt iface (served es) → is_served R x.1 ≡ true → Within dg R a (x.1.profiles ++ names_of dg R a (served es)) → Activates dg R a x.1 → AllByRecursion (λ y. Activates dg R a y.1) (served es) → (b : Bool) → bytes_eq iface x.1.iface ≡ b
          → view_host_answer (view_of dg R) f d a (last entries iface (cond b (Some shown) None)) ≡ host_answer R f d a (with_iface (hosts (x ∷ served es)) iface)
      by_iface rest t within here active true same =
          ap (view_host_answer (view_of dg R) f d a) (ap (λ i. last entries i (Some shown)) (same_bytes iface x.1.iface same)
          ∙ none_alike dg R a servable x.0 x.1 es (Some shown) there.0 t (first _ _ sorted) there.1)
          ∙ same_here x (hosts (served es)) iface same
          (ap (with_iface (hosts (served es))) (same_bytes iface x.1.iface same) ∙ none_behind x.0 x.1 es there.0 t (first _ _ sorted) there.1)
          (endpoint_same dg R a servable d x.0 x.1 (λ q h. within q (list_any-append (is q) x.1.profiles (names_of dg R a (served es)) ∙ or_left (list_any (is q) x.1.profiles) (list_any (is q) (names_of dg R a (served es))) h)) here)
          (is_host_key x.0)
      by_iface rest t within here active false same =
          rest (λ q h. within q (list_any-append (is q) x.1.profiles (names_of dg R a (served es)) ∙ or_right (list_any (is q) x.1.profiles) (list_any (is q) (names_of dg R a (served es))) h)) active
          ∙ sym (other_here x (hosts (served es)) iface same (is_host_key x.0))

      by_served : IsAlikeAt iface (served es) → (b : Bool) → is_served R x.1 ≡ b → IsAlikeAt iface (cond b (x ∷ served es) (served es))
      by_served rest true t within active =
          ap (λ b. view_host_answer (view_of dg R) f d a (last entries iface (cond b (Some shown) None))) (sym (texts_ties iface x.1.iface))
          ∙ by_iface rest t within active.0 active.1 (bytes_eq iface x.1.iface) refl
      by_served rest false t within active = rest within active

  -- the wanted view's answer is the policy reference's
  pub host_view_is_policy : (iface : List ℕ) → view_host_verdict (view_of dg R) f d iface a ≡ host_verdict R f d iface a
  host_view_is_policy iface =
      ap (view_host_answer (view_of dg R) f d a) (get-collected nat_list_cmp_total (map (endpoint_entry dg R) (served_endpoints R)) iface)
      ∙ alike_at iface (maps.entries R.endpoints) (maps.entries_sorted R.endpoints) (entries_found item_total R.endpoints) (λ q h. h) (activates R (served_endpoints R) (λ p h. h))
