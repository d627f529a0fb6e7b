-- The nets and addresses of IPv4 among those that are read, and the nets of a side of a rule (Calico's resource reference,
-- `projectcalico.org/v3`, EntityRule).
use Rattle.std.specs.Prelude.{List, Bool, true, false, ◌&&◌, Option, Some, None, Ok, codes}
use Rattle.std.specs.List.{list_all, filter_map}
use Rattle.fx_base.specs.declared.net.Ipv4.{Ipv4}
use Rattle.fx_base.specs.declared.net.Net.{Net}
use Rattle.fx_base.specs.declared.net.NetText.{NetText}
use Rattle.fx_base.specs.declared.net.NetText.TheVariants.{V4, V6}
use Rattle.fx_base.specs.Given.{is_given}
use Rattle.fx_fields.specs.declared.nets.ReadNets.{ReadNets}
use Rattle.fx_fields.specs.Fields.{◌>>=◌, Reader, items}
use Rattle.fx_fields.specs.Values.{net}

-- the nets of IPv4; those of IPv6 give nothing
abbrev pub ipv4 : NetText → Option Net
ipv4 (V4 n) = Some n
ipv4 V6 = None

abbrev pub host_address : NetText → Option Ipv4
host_address (V4 n) = Some n.addr
host_address V6 = None

-- ---- the nets of a side

abbrev pub is_ipv6 : NetText → Bool
is_ipv6 (V4 n) = false
is_ipv6 V6 = true

-- there are nets, and all are of IPv6
unfoldable pub are_ipv6_alone : List NetText → Bool
are_ipv6_alone nets = is_given nets && list_all is_ipv6 nets

-- the nets of IPv4, and whether no packet of IPv4 meets them
unfoldable pub nets_of : Reader ReadNets
nets_of path d = do
  nets ← items net path (codes "nets") d
  not_nets ← items net path (codes "notNets") d
  Ok (record { nets = filter_map ipv4 nets; not_nets = filter_map ipv4 not_nets; never = are_ipv6_alone nets })
