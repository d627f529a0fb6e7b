-- The member behind a set's name in a row, as ipset(8) saves it: the member of the set's kind that prints so.
use Rattle.std.specs.Prelude.{◌≡◌, ◌<◌, ◌^◌, ℕ, List, Bool, true, ◌&&◌, nat_le, Option, option_map, option_and_then}
use Rattle.std.specs.Str.{bytes_eq}
use Rattle.fx_base.specs.SetName.{kind_of}
use Rattle.fx_base.specs.declared.set_name.SetKind.{SetKind}
use Rattle.fx_base.specs.declared.set_name.SetKind.TheVariants.{Nets, Ports}
use Rattle.fx_model.specs.declared.member.Member.{Member}
use Rattle.fx_model.specs.declared.member.Member.TheVariants as member
use Rattle.fx_model.specs.Shapes.{is_member_of}
use Rattle.fx_model.specs.MemberTexts.{member_text}
use Rattle.fx_found.specs.Pieces.{piece, behind}
use Rattle.fx_found.specs.Values.{kept, up_to, protocol_in, address_in, net_in}

-- an address, a protocol and a port, as `10.0.0.1,tcp:80`
abbrev pub port_in : List ℕ → Option Member
port_in text =
    let port = behind 44 text in
    option_and_then (λ address. option_and_then (λ protocol. option_map (λ number. member.PortAt address protocol number) (up_to 65535 (behind 58 port))) (protocol_in (piece 58 port))) (address_in (piece 44 text))

abbrev pub member_read : SetKind → List ℕ → Option Member
member_read Nets text = option_map member.Net (net_in text)
member_read Ports text = port_in text

-- a port's protocol is numbered from 1 on
abbrev pub has_protocol : Member → Bool
has_protocol (member.Net net) = true
has_protocol (member.PortAt address protocol number) = nat_le 1 protocol.0

unfoldable pub member_of : List ℕ → List ℕ → Option Member
member_of name text = kept (λ m. is_member_of name m && (has_protocol m && bytes_eq (member_text m) text)) (member_read (kind_of name) text)

-- the members of a set of this name that have rows
pub record IsRowMember (name : List ℕ) (m : Member) : Type 0 where
  pub kind : is_member_of name m ≡ true
  pub numbered : has_protocol m ≡ true

-- what the types of a member's numbers hold, where a law ranges over all numbers
abbrev pub AreHeld : Member → Type 0
AreHeld (member.Net net) = net.addr.0 < 2 ^ 32
AreHeld (member.PortAt address protocol number) = (address.0 < 2 ^ 32) × (protocol.0 < 2 ^ 8) × (number < 2 ^ 16)
