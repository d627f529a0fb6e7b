use Rattle.std.proofs.Common.{◌≡◌, ℕ, List, Option, Ok, inl, inr, refl}
use Rattle.std.specs.Prelude.{codes}
use Rattle.std.proofs.lemmas.Result.{err_from_is_err_and}
use Rattle.serde_json.specs.Data.{Data}
use Rattle.serde_json.specs.View.{view}
use Rattle.fx_base.specs.declared.net.Ipv4.{Ipv4}
use Rattle.fx_fields.specs.declared.fault.ReadFault.{ReadFault}
use Rattle.fx_fields.specs.declared.texts.TextForm.TheVariants.{Name}
use Rattle.fx_fields.specs.Faults.{IsReadFault}
use Rattle.fx_fields.specs.Fields.{items}
use Rattle.fx_fields.specs.Forms.{text}
use Rattle.fx_fields.specs.Paths.{text_of}
use Rattle.fx_json.specs.Endpoints.{endpoint_port}
use Rattle.fx_hostep.specs.HostFields.{host_holdings}
use Rattle.fx_hostep.specs.HostForms.{host_address}
use Rattle.fx_hostep.proofs.reading.read_holdings.Goals as goal

-- where all before the ports is read, their fault is told
refused_ports : (path : List ℕ) (d : Data) (hosts : List (Option Ipv4)) (profiles : List (List ℕ)) (told : ReadFault) → items host_address path (codes "expectedIPs") d ≡ Ok hosts → items (text Name) path (codes "profiles") d ≡ Ok profiles → IsReadFault (items endpoint_port path (codes "ports") d) told → IsReadFault (host_holdings path d) told
unfolding host_holdings
refused_ports path d hosts profiles told from listed (inl memory) = inl memory
refused_ports path d hosts profiles told from listed (inr fault) = inr (rw (from, listed, fault) refl)

pub returns-in_err-ports : goal.returns-in_err-ports
returns-in_err-ports c =
    let told = err_from_is_err_and c.from_residual-in_err-ports.result c.from_residual-in_err-ports.ensures.1 in
    rw (told.1, told.2)
    (refused_ports (text_of c.args.path.now) (view c.args.spec.now) c.in_ok-hosts.hosts c.in_ok-profiles.profiles _ c.in_ok-hosts.ensures c.in_ok-profiles.ensures c.in_err-ports.ensures)

pub returns : goal.returns
unfolding host_holdings
returns c =
    rw (c.in_ok-hosts.ensures, c.in_ok-profiles.ensures, c.in_ok-ports.ensures)
    (rw (c.in_ok-addresses_of.ensures, c.as_slice.ensures))
