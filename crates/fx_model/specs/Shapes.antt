-- The shapes that rules of chains have: by iptables(8) and iptables-extensions(8) a rule has at most one each of `-p`, `-s`, `-d`,
-- `-i`, `-o`, a match on the mark and one on the connection's state, and a match on ports takes at most 15 of them, a range
-- counting as two. Felix's matches stand in one order; the sets of an end do so by their kinds, of which ipset(8) has `hash:net` and
-- `hash:ip,port`.
use Rattle.std.specs.Prelude.{◌≡◌, ℕ, ◌+◌, List, [], ◌∷◌, Bool, true, false, ◌&&◌, nat_le, if◌then◌else◌, Some}
use Rattle.std.specs.FinMap as maps
use Rattle.std.specs.List.{list_all}
use Rattle.fx_base.specs.SetName.{kind_of}
use Rattle.fx_base.specs.declared.set_name.SetKind.{SetKind}
use Rattle.fx_base.specs.declared.set_name.SetKind.TheVariants as kind
use Rattle.fx_base.specs.declared.net.PortRange.{PortRange}
use Rattle.fx_model.specs.declared.member.Member.{Member}
use Rattle.fx_model.specs.declared.member.Member.TheVariants as member
use Rattle.fx_model.specs.declared.chain.End.{End}
use Rattle.fx_model.specs.declared.chain.End.TheVariants.{Source, Dest}
use Rattle.fx_model.specs.declared.chain.Match.{Match}
use Rattle.fx_model.specs.declared.chain.Match.TheVariants as match
use Rattle.fx_model.specs.declared.chain.ChainRule.{ChainRule}
use Rattle.fx_model.specs.Rendering.{slots_of}
use Rattle.fx_model.specs.Tables.{ChainName, Chains, Sets}
use Rattle.fx_model.specs.Messages.{Members}
use Rattle.fx_base.specs.Set as set

-- the set of nets, the one that is excluded, sets of ports, and those that are excluded
abbrev pub set_place : SetKind → Bool → ℕ
set_place kind.Nets false = 0
set_place kind.Nets true = 1
set_place kind.Ports false = 2
set_place kind.Ports true = 3

abbrev pub behind_source : End → ℕ → ℕ
behind_source Source place = place
behind_source Dest place = place + 1

abbrev pub behind_positive : Bool → ℕ → ℕ
behind_positive false place = place
behind_positive true place = place + 1

-- the place of a match in the order of matches
abbrev pub order_of : Match → ℕ
order_of (match.Proto proto opposite) = 0
order_of (match.Net end net opposite) = behind_source end 1
order_of (match.Iface end name wild) = behind_source end 3
order_of (match.Mark value mask) = 5
order_of (match.State related_established) = 6
order_of (match.Set Source name opposite) = set_place (kind_of name) opposite + 7
order_of (match.Set Dest name opposite) = set_place (kind_of name) opposite + 11
order_of (match.Ports Source list opposite) = behind_positive opposite 15
order_of (match.Ports Dest list opposite) = behind_positive opposite 17
order_of (match.Icmp icmp opposite) = 19

-- the places up to here stand at most once in a rule
abbrev pub last_single : ℕ
last_single = 6

-- what may follow a match of this place: a later place, or the same one if it may stand twice
abbrev pub least_after : ℕ → ℕ
least_after place = if nat_le place last_single then place + 1 else place

-- the matches stand in order, from this place on
abbrev pub are_ordered : ℕ → List Match → Bool
are_ordered least [] = true
are_ordered least (m ∷ ms) = nat_le least (order_of m) && are_ordered (least_after (order_of m)) ms

abbrev pub slots : List PortRange → ℕ
slots [] = 0
slots (r ∷ rs) = slots_of r + slots rs

abbrev pub fits_slots : Match → Bool
fits_slots (match.Proto proto opposite) = true
fits_slots (match.Net end net opposite) = true
fits_slots (match.Iface end name wild) = true
fits_slots (match.Mark value mask) = true
fits_slots (match.State related_established) = true
fits_slots (match.Set end name opposite) = true
fits_slots (match.Ports end list opposite) = nat_le (slots list) 15
fits_slots (match.Icmp icmp opposite) = true

abbrev pub has_shape : ChainRule → Bool
has_shape r = are_ordered 0 r.matches && list_all fits_slots r.matches

abbrev pub have_shape : List ChainRule → Bool
have_shape rules = list_all has_shape rules

-- the rules of all chains have the shapes of rules
abbrev pub AreShaped : Chains → Type 0
AreShaped chains = (name : ChainName) (rules : List ChainRule) → maps.get chains name ≡ Some rules → have_shape rules ≡ true

-- ---- members of sets, by ipset(8): a `hash:net` set takes no net of length 0

abbrev pub is_of : SetKind → Member → Bool
is_of kind.Nets (member.Net net) = nat_le 1 net.len
is_of kind.Nets (member.PortAt address proto number) = false
is_of kind.Ports (member.Net net) = false
is_of kind.Ports (member.PortAt address proto number) = true

-- a member that the set of this name takes
abbrev pub is_member_of : List ℕ → Member → Bool
is_member_of name x = is_of (kind_of name) x

-- each set has members that it takes
abbrev pub AreOfKinds : Sets → Type 0
AreOfKinds sets =
    (name : List ℕ) (members : Members) → maps.get sets name ≡ Some members → (x : Member) → set.contains members x ≡ true → is_member_of name x ≡ true
