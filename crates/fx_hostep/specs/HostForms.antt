-- The forms of a host endpoint's fields, of a failsafe port and of a direction. From Calico's resource reference
-- (`projectcalico.org/v3`), HostEndpoint, and Felix's configuration (FailsafeInboundHostPorts).
use Rattle.std.specs.Prelude.{ℕ, List, Bool, true, false, nat_eq, if◌then◌else◌, Option, Some, None, option_and_then, Result, Ok, Err, codes}
use Rattle.std.specs.List.{starts_with}
use Rattle.std.specs.Str.{bytes_eq}
use Rattle.serde_json.specs.Find.{as_str}
use Rattle.fx_base.specs.declared.net.Ipv4.{Ipv4}
use Rattle.fx_fields.specs.declared.fault.ReadFault.{ReadFault}
use Rattle.fx_fields.specs.declared.fault.ReadFault.TheVariants.{BadField, Unsupported}
use Rattle.fx_fields.specs.declared.texts.TextForm.TheVariants.{Interface}
use Rattle.fx_fields.specs.Fields.{◌>>=◌, Reader, formed}
use Rattle.fx_fields.specs.Forms.{text}
use Rattle.fx_fields.specs.Values.{address, has_colon}

-- ---- interfaces

abbrev pub is_star : Option (List ℕ) → Bool
is_star None = false
is_star (Some s) = bytes_eq s (codes "*")

-- a name that begins with `cali` is that of a workload's interface
abbrev pub own_interface : List ℕ → List ℕ → Result (List ℕ) ReadFault
own_interface path s = if starts_with nat_eq s (codes "cali") then Err (BadField path) else Ok s

-- one of the node's own interfaces; `*` stands for all of them, and isn't served
abbrev pub host_interface : Reader (List ℕ)
host_interface path d =
    if is_star (as_str d) then Err (Unsupported path) else (text Interface path d >>= own_interface path)

-- ---- addresses

abbrev pub is_ipv6_text : Option (List ℕ) → Bool
is_ipv6_text None = false
is_ipv6_text (Some s) = has_colon s

-- an address of IPv4; a text with `:` is one of IPv6, gives nothing and isn't read further
abbrev pub host_address : Reader (Option Ipv4)
host_address path d = if is_ipv6_text (as_str d) then Ok None else (address path d >>= λ a. Ok (Some a))

abbrev pub of_ipv4 : Option Ipv4 → Option Ipv4
of_ipv4 (Some a) = Some a
of_ipv4 None = None

-- ---- directions

-- whether a packet comes in to a process
abbrev pub direction_named : List ℕ → Option Bool
direction_named s =
    if bytes_eq s (codes "in") then Some true else (if bytes_eq s (codes "out") then Some false else None)

abbrev pub direction : Reader Bool
direction path d = formed path (option_and_then direction_named (as_str d))
