use Rattle.std.proofs.Common.{◌≡◌, Ok, List, inl, inr, refl, sym, ap, ◌∙◌}
use Rattle.std.specs.Prelude.{codes}
use Rattle.std.specs.List.{flat_map, filter_map}
use Rattle.std.proofs.lemmas.Result.{err_from_is_err_and}
use Rattle.serde_json.specs.Data.{Data}
use Rattle.serde_json.specs.View.{view}
use Rattle.fx_base.specs.declared.net.Ipv4.{Ipv4}
use Rattle.fx_fields.specs.declared.fault.ReadFault.{ReadFault}
use Rattle.fx_fields.specs.declared.metadata.Metadata.{Metadata}
use Rattle.fx_fields.specs.Faults.{IsReadFault}
use Rattle.fx_fields.specs.Metadata.{metadata_in}
use Rattle.fx_services.specs.declared.slice_fields.AddressType.{AddressType}
use Rattle.fx_services.specs.SliceFields.{required_here, items_here, address_type, slice_addresses, slice_port}
use Rattle.fx_services.specs.Slices.{slice_of}
use Rattle.fx_services.proofs.slices.slice_of.Goals as goal

-- where all before the ports is read, their fault is told
refused_ports : (d : Data) (about : Metadata) (of_ipv4 : AddressType) (endpoints : List (List Ipv4)) (told : ReadFault) → metadata_in d ≡ Ok about → required_here address_type (codes "addressType") d ≡ Ok of_ipv4 → items_here (slice_addresses of_ipv4) (codes "endpoints") d ≡ Ok endpoints → IsReadFault (items_here slice_port (codes "ports") d) told → IsReadFault (slice_of d) told
unfolding slice_of
refused_ports d about of_ipv4 endpoints told named typed held (inl memory) = inl memory
refused_ports d about of_ipv4 endpoints told named typed held (inr fault) = inr (rw (named, typed, held, fault) refl)

pub returns-in_err-ports : goal.returns-in_err-ports
returns-in_err-ports c =
    let told = err_from_is_err_and c.from_residual-in_err-ports.result c.from_residual-in_err-ports.ensures.1 in
    rw (told.1, told.2)
    (refused_ports (view c.args.value.now) c.in_ok-named.field-0 c.in_ok-addresses.addresses c.in_ok-endpoints.endpoints _ c.in_ok-named.ensures c.in_ok-addresses.ensures c.in_ok-endpoints.ensures c.in_err-ports.ensures)

pub returns : goal.returns
unfolding slice_of
returns c =
    let addresses = c.in_ok-all_addresses.ensures ∙ ap (flat_map (λ addresses. addresses)) c.as_slice.ensures in
    let ports = c.in_ok-all_ports.ensures ∙ ap (filter_map (λ port. port)) c.as_slice-2.ensures in
    rw (c.in_ok-named.ensures, c.in_ok-addresses.ensures, c.in_ok-endpoints.ensures, c.in_ok-ports.ensures)
    (λ i. Ok (record {
      named = c.in_ok-named.field-0.named;
      service = sym c.in_ok-service_in.ensures i;
      addresses = sym addresses i;
      ports = sym ports i;
    }))
