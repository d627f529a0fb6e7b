-- Where no names clash that the resources claim, each endpoint that the resolver knows has an interface of its own.
use Rattle.std.proofs.Common.{◌≡◌, Bool, true, false, cond, Option, Some, None, refl, sym, ap, ◌∙◌}
use Rattle.std.specs.FinMap as maps
use Rattle.fx_base.specs.Same.{both_pass}
use Rattle.fx_names.specs.Digests.{Digest}
use Rattle.fx_laws.proofs.FormedLemmas.{endpoints_formed}
use Rattle.fx_laws.proofs.Interfaces.{same_key, one_interface}
use Rattle.fx_laws.proofs.Removing.{found_passes}
use Rattle.fx_model.proofs.Orders.{item_total, exact_item}
use Rattle.fx_model.specs.declared.ids.ItemKey.{ItemKey}
use Rattle.fx_model.specs.declared.resources.Endpoint.{Endpoint}
use Rattle.fx_model.specs.declared.resources.Resources.{Resources}
use Rattle.fx_model.specs.Claims.{IsClashFree}
use Rattle.fx_model.specs.Formed.{is_formed_endpoint_entry, are_formed}
use Rattle.fx_model.specs.Resources.{is_local, is_served}
use Rattle.fx_resolver.specs.declared.inputs.Inputs as resolver
use Rattle.fx_resolver.specs.declared.known.KnownEndpoint.{KnownEndpoint}
use Rattle.fx_resolver.specs.Resolved.{HaveOwnInterfaces}
use Rattle.fx_node_laws.specs.Tied.{known_endpoint, served_known}

module _ (dg : Digest) (R : Resources) where
  -- an endpoint that is known is one that is served
  known_is_served : (o : Option Endpoint) (x : KnownEndpoint) → served_known dg R o ≡ Some x → (e : Endpoint) × ((o ≡ Some e) × ((is_served R e ≡ true) × (known_endpoint dg e ≡ x)))
  known_is_served None x h = cc
  known_is_served (Some e) x h = by_test (is_served R e) refl h
    where
      by_test : (b : Bool) → is_served R e ≡ b → cond b (Some (known_endpoint dg e)) None ≡ Some x → (d : Endpoint) × ((Some e ≡ Some d) × ((is_served R d ≡ true) × (known_endpoint dg d ≡ x)))
      by_test true is g = let same : known_endpoint dg e ≡ x = cc in (e, (refl, (is, same)))
      by_test false is g = cc

  pub own_interfaces : (r : resolver.Inputs) → are_formed R ≡ true → IsClashFree dg R → ((k : ItemKey) → maps.get r.endpoints k ≡ served_known dg R (maps.get R.endpoints k)) → HaveOwnInterfaces r.endpoints
  own_interfaces r formed free are i j x y h k same =
      let d = known_is_served (maps.get R.endpoints i) x (sym (are i) ∙ h) in
      let e = known_is_served (maps.get R.endpoints j) y (sym (are j) ∙ k) in
      let first = found_passes item_total exact_item is_formed_endpoint_entry R.endpoints (endpoints_formed R formed) i d.0 d.1.0 in
      let second = found_passes item_total exact_item is_formed_endpoint_entry R.endpoints (endpoints_formed R formed) j e.0 e.1.0 in
      let here = both_pass R.in_sync (is_local R d.0) d.1.1.0 in
      let there = both_pass R.in_sync (is_local R e.0) e.1.1.0 in
      same_key i j d.0 e.0 first second
      (one_interface dg R free i j d.0 e.0 first second d.1.0 e.1.0 here.1 there.1 (ap (λ (z : KnownEndpoint). z.iface) d.1.1.1 ∙ same ∙ sym (ap (λ (z : KnownEndpoint). z.iface) e.1.1.1)))
