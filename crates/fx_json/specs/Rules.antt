-- A rule of a policy or a profile, field by field in the order of Calico's resource reference (`projectcalico.org/v3`, Rule). Words are
-- exact in case. Members that aren't named here are ignored. A rule for IPv6 alone, as one for messages of ICMPv6, is kept as one that is never met.
use Rattle.std.specs.Prelude.{ℕ, List, Bool, true, false, not, ◌&&◌, ◌||◌, ◌==◌, if◌then◌else◌, Option, Some, None, is_some, option_and_then, Result, Ok, Err, codes}
use Rattle.std.specs.Str.{bytes_eq}
use Rattle.serde_json.specs.Data.{Data}
use Rattle.serde_json.specs.Find.{as_str}
use Rattle.fx_base.specs.declared.net.Proto.{Proto}
use Rattle.fx_model.specs.declared.rules.Action.{Action}
use Rattle.fx_model.specs.declared.rules.Action.TheVariants.{Allow, Deny, Log, Pass}
use Rattle.fx_model.specs.declared.rules.Icmp.{Icmp}
use Rattle.fx_model.specs.declared.rules.Rule.{Rule}
use Rattle.fx_model.specs.Formed.{passes}
use Rattle.fx_fields.specs.declared.fault.ReadFault.{ReadFault}
use Rattle.fx_fields.specs.declared.fault.ReadFault.TheVariants.{IcmpWithoutProtocol, PassInProfile}
use Rattle.fx_fields.specs.declared.rule_form.RuleForm.{RuleForm}
use Rattle.fx_fields.specs.declared.rule_form.RulePlace.{RulePlace}
use Rattle.fx_fields.specs.declared.rule_form.Services.{Services}
use Rattle.fx_fields.specs.declared.rule_form.RulePlace.TheVariants.{OfPolicy, OfNamespace, OfProfile}
use Rattle.fx_json.specs.declared.rules.ReadProtocols.{ReadProtocols}
use Rattle.fx_json.specs.declared.sides.ReadSide.{ReadSide}
use Rattle.fx_fields.specs.Paths.{member_path}
use Rattle.fx_fields.specs.Fields.{◌>>=◌, Reader, is_absent, formed, required, defaulted, optional, unread, object_at, section}
use Rattle.fx_fields.specs.Values.{whole, version, protocol}
use Rattle.fx_json.specs.Sides.{side}

-- ---- actions

abbrev pub action_named : List ℕ → Option Action
action_named s =
    if bytes_eq s (codes "Allow") then Some Allow
    else (if bytes_eq s (codes "Deny") then Some Deny
    else (if bytes_eq s (codes "Log") then Some Log
    else (if bytes_eq s (codes "Pass") then Some Pass else None)))

-- behind a profile there is no tier to pass to
abbrev pub may_pass : RulePlace → Bool
may_pass OfPolicy = true
may_pass (OfNamespace ns) = true
may_pass OfProfile = false

abbrev pub allowed : Bool → List ℕ → Action → Result Action ReadFault
allowed may path a = if passes a && not may then Err (PassInProfile path) else Ok a

abbrev pub action : Bool → Reader Action
action may path d = formed path (option_and_then action_named (as_str d)) >>= allowed may path

-- ---- messages of ICMP

-- ICMPv6 by its number
abbrev pub is_icmpv6 : Option Proto → Bool
is_icmpv6 None = false
is_icmpv6 (Some p) = p.0 == 58

abbrev pub has_messages : Option Proto → Bool
has_messages None = false
has_messages (Some p) = (p.0 == 1) || (p.0 == 58)

-- a protocol with messages
abbrev pub with_messages : Option Proto → List ℕ → Result (Unit {0}) ReadFault
with_messages protocol path = if has_messages protocol then Ok tt else Err (IcmpWithoutProtocol path)

abbrev pub message : Reader Icmp
message path d = do
  kind ← required (whole 0 254) path (codes "type") d
  code ← optional (whole 0 255) path (codes "code") d
  Ok (record { kind = kind; code = code })

-- an object without these members counts as absent
abbrev pub asked_message : Option Proto → Reader (Option Icmp)
asked_message protocol path d =
    if is_absent (codes "type") d && is_absent (codes "code") d then Ok None
    else with_messages protocol path >>= λ _. message path d >>= λ m. Ok (Some m)

unfoldable pub icmp_at : Option Proto → List ℕ → List ℕ → Data → Result (Option Icmp) ReadFault
icmp_at protocol path key d = section (member_path path key) key d >>= asked_message protocol (member_path path key)

-- ---- a rule

-- how a rule is read that stands here
abbrev pub form_in : RulePlace → Services → RuleForm
form_in place services = record { place = place; services = services }

-- messages of ICMPv6 are dropped
unfoldable pub of_ipv4 : Option Proto → Option Icmp → Option Icmp
of_ipv4 protocol m = if is_icmpv6 protocol then None else m

-- a rule for IPv6, or for messages of ICMPv6
unfoldable pub is_of_ipv6 : ℕ → Option Proto → Option Icmp → Option Icmp → Bool
is_of_ipv6 ip_version protocol m not_m = (ip_version == 6) || (is_icmpv6 protocol && (is_some m || is_some not_m))

-- what a rule asks of a packet's protocol, and whether no packet of IPv4 meets it
unfoldable pub protocols : Reader ReadProtocols
protocols path d = do
  ip_version ← defaulted 4 version path (codes "ipVersion") d
  proto ← optional protocol path (codes "protocol") d
  not_proto ← optional protocol path (codes "notProtocol") d
  m ← icmp_at proto path (codes "icmp") d
  not_m ← icmp_at proto path (codes "notICMP") d
  Ok (record {
    protocol = proto;
    not_protocol = not_proto;
    icmp = of_ipv4 proto m;
    not_icmp = of_ipv4 proto not_m;
    never = is_of_ipv6 ip_version proto m not_m;
  })

unfoldable pub side_at : RuleForm → Option Proto → List ℕ → List ℕ → Data → Result ReadSide ReadFault
side_at form protocol path key d = section (member_path path key) key d >>= side form protocol (member_path path key)

-- a rule that no packet of IPv4 meets
unfoldable pub is_never : ReadProtocols → ReadSide → ReadSide → Bool
is_never asked source destination = asked.never || (source.never || destination.never)

unfoldable pub rule_fields : RuleForm → Reader Rule
rule_fields form path d = do
  a ← required (action (may_pass form.place)) path (codes "action") d
  asked ← protocols path d
  source ← side_at form asked.protocol path (codes "source") d
  destination ← side_at form asked.protocol path (codes "destination") d
  _ ← optional unread path (codes "http") d
  Ok (record {
    action = a;
    never = is_never asked source destination;
    protocol = asked.protocol;
    not_protocol = asked.not_protocol;
    icmp = asked.icmp;
    not_icmp = asked.not_icmp;
    source = source.side;
    destination = destination.side;
  })

unfoldable pub rule : RuleForm → Reader Rule
rule form path d = object_at path d >>= rule_fields form path
