-- The packet machine: what the kernel does with a packet at the FORWARD hook, rule by rule. From iptables(8) (`-j`, `-g`,
-- ACCEPT, DROP, RETURN, the end of a chain) and iptables-extensions(8) (matches, MARK and LOG) and ipset(8).
use Rattle.std.specs.Prelude.{◌≡◌, ℕ, suc, Bool, true, false, not, ◌&&◌, ◌||◌, ◌==◌, if◌then◌else◌, List, [], ◌∷◌, ◌++◌, nat_eq, bit_and, bit_xor, slice_get, Option, Some, None}
use Rattle.std.specs.Int.{bit_not, w32}
use Rattle.std.specs.List.{list_all, list_any, starts_with}
use Rattle.std.specs.Str.{bytes_eq}
use Rattle.std.specs.FinMap as maps
use Rattle.fx_model.specs.declared.packet.State.{State}
use Rattle.fx_model.specs.declared.packet.State.TheVariants.{New, Established, Related, Invalid}
use Rattle.fx_model.specs.declared.packet.Packet.{Packet}
use Rattle.fx_model.specs.declared.packet.Verdict.{Verdict}
use Rattle.fx_model.specs.declared.packet.Verdict.TheVariants.{Allow, Deny}
use Rattle.fx_model.specs.declared.chain.End.{End}
use Rattle.fx_model.specs.declared.chain.End.TheVariants.{Source, Dest}
use Rattle.fx_model.specs.declared.chain.Match.{Match}
use Rattle.fx_model.specs.declared.chain.Match.TheVariants as match
use Rattle.fx_model.specs.declared.chain.Target.{Target}
use Rattle.fx_model.specs.declared.chain.Target.TheVariants as target
use Rattle.fx_model.specs.declared.chain.Reason.{Reason}
use Rattle.fx_model.specs.declared.chain.Tag.{Tag}
use Rattle.fx_model.specs.declared.chain.Tag.TheVariants.{Plain, Why}
use Rattle.fx_model.specs.declared.chain.Tag.TheVariants as tag
use Rattle.fx_model.specs.declared.member.Member.{Member}
use Rattle.fx_model.specs.declared.member.Member.TheVariants as member
use Rattle.fx_model.specs.declared.chain.ChainRule.{ChainRule}
use Rattle.fx_model.specs.Directions.{Direction, Ingress, Egress}
use Rattle.fx_base.specs.Set as set
use Rattle.fx_model.specs.Criteria.{address_at, port_at, in_net, has_ports, in_ranges, is_icmp, is_message}
use Rattle.fx_model.specs.Messages.{members_of}
use Rattle.fx_model.specs.Tables.{ChainName, Chains, Sets, Tables, forward}

-- ---- one rule

abbrev pub iface_at : End → Packet → List ℕ
iface_at Source a = a.iface_in
iface_at Dest a = a.iface_out

-- an interface by its whole name, or with a `+` by how it begins
abbrev pub names_iface : Bool → List ℕ → List ℕ → Bool
names_iface false name iface = bytes_eq iface name
names_iface true name iface = starts_with nat_eq iface name

-- `RELATED,ESTABLISHED`, or `INVALID`
abbrev pub state_in : Bool → State → Bool
state_in true New = false
state_in true Established = true
state_in true Related = true
state_in true Invalid = false
state_in false New = false
state_in false Established = false
state_in false Related = false
state_in false Invalid = true

-- the answer of a test, or with `!` its opposite
abbrev pub negated : Bool → Bool → Bool
negated false b = b
negated true b = not b

-- a net holds for an address in it, and a port for its address, protocol and number
abbrev pub member_holds : End → Packet → Member → Bool
member_holds end a (member.Net net) = in_net net (address_at end a)
member_holds end a (member.PortAt address proto number) =
    nat_eq (address_at end a) address.0 && (nat_eq a.proto.0 proto.0 && nat_eq (port_at end a) number)

-- some member of the set holds; a set that isn't there has none
abbrev pub set_holds : Sets → End → List ℕ → Packet → Bool
set_holds sets end name a = list_any (member_holds end a) (set.items (members_of (maps.get sets name)))

-- a match holds for a packet that has this mark; one on ports holds for protocols that have ports alone, and one on messages of
-- ICMP for ICMP alone, with and without `!`
unfoldable pub holds : Sets → Packet → ℕ → Match → Bool
holds sets a mark (match.Proto proto opposite) = negated opposite (nat_eq a.proto.0 proto.0)
holds sets a mark (match.Net end net opposite) = negated opposite (in_net net (address_at end a))
holds sets a mark (match.Iface end name wild) = names_iface wild name (iface_at end a)
holds sets a mark (match.Mark value mask) = nat_eq (bit_and mark mask) value
holds sets a mark (match.State related_established) = state_in related_established a.state
holds sets a mark (match.Set end name opposite) = negated opposite (set_holds sets end name a)
holds sets a mark (match.Ports end list opposite) = has_ports a.proto.0 && negated opposite (in_ranges list (port_at end a))
holds sets a mark (match.Icmp icmp opposite) = is_icmp a && negated opposite (is_message icmp a)

-- how matches are tested, given the packet's mark
abbrev pub Test : Type 0
Test = ℕ → Match → Bool

abbrev pub hold_all : Test → ℕ → List Match → Bool
hold_all test mark ms = list_all (test mark) ms

-- the mark after `--set-xmark value/mask`: the mask's bits are zeroed, then the value goes in by XOR
abbrev pub marked : ℕ → ℕ → ℕ → ℕ
marked mark value mask = bit_xor (bit_and mark (bit_not w32 mask)) value

-- the rules of a chain, none where there is no such chain
abbrev pub rules_found : Option (List ChainRule) → List ChainRule
rules_found None = []
rules_found (Some rules) = rules

abbrev pub rules_in : Chains → ChainName → List ChainRule
rules_in chains name = rules_found (maps.get chains name)

-- ---- one step

-- a chain, and how many of its rules are behind
pub record Place : Type 0 where
  pub chain : ChainName
  pub passed : ℕ

-- where a packet stands: its next rule, where RETURN leads, its mark, and what was noted of the rules that matched
pub record Config (S : Type 0) : Type 0 where
  pub place : Place
  pub stack : List Place
  pub mark : ℕ
  pub noted : S

pub data Next (S : Type 0) : Type 0 where
  Goes : Config S → Next S
  Ends : Verdict → S → Next S

-- what is noted of a rule that matched, told by its chain and its place from 1
abbrev pub Notes : Type 0 → Type 0
Notes S = ChainName → ℕ → ChainRule → S → S

abbrev pub at_rule : {S : Type 0} → ChainName → ℕ → List Place → ℕ → S → Config S
at_rule chain passed stack mark noted =
    record { place = record { chain = chain; passed = passed }; stack = stack; mark = mark; noted = noted }

-- RETURN, and the end of a chain: back to the last return place; without one the packet is accepted
abbrev pub popped : {S : Type 0} → List Place → ℕ → S → Next S
popped [] mark noted = Ends Allow noted
popped (back ∷ stack) mark noted = Goes (record { place = back; stack = stack; mark = mark; noted = noted })

-- the target of a rule that matched: a jump pushes the place behind it, a goto does not
abbrev pub acted : {S : Type 0} → Target → ChainName → ℕ → List Place → ℕ → S → Next S
acted target.Accept chain passed stack mark noted = Ends Allow noted
acted target.Drop chain passed stack mark noted = Ends Deny noted
acted target.Return chain passed stack mark noted = popped stack mark noted
acted (target.Jump to) chain passed stack mark noted =
    Goes (at_rule to 0 (record { chain = chain; passed = suc passed } ∷ stack) mark noted)
acted (target.Goto to) chain passed stack mark noted = Goes (at_rule to 0 stack mark noted)
acted (target.Mark value mask) chain passed stack mark noted =
    Goes (at_rule chain (suc passed) stack (marked mark value mask) noted)
acted target.Log chain passed stack mark noted = Goes (at_rule chain (suc passed) stack mark noted)

-- one step, where this rule is next, or none
abbrev pub at_next : {S : Type 0} → Notes S → Test → Option ChainRule → ChainName → ℕ → List Place → ℕ → S → Next S
at_next note test None chain passed stack mark noted = popped stack mark noted
at_next note test (Some r) chain passed stack mark noted =
    elim (hold_all test mark r.matches) [
      | true ↦ acted r.target chain passed stack mark (note chain (suc passed) r noted)
      | false ↦ Goes (at_rule chain (suc passed) stack mark noted)
    ]

abbrev pub machine_step : {S : Type 0} → Notes S → Test → Chains → Config S → Next S
machine_step note test chains c =
    at_next note test (slice_get (rules_in chains c.place.chain) c.place.passed) c.place.chain c.place.passed c.stack c.mark c.noted

-- from here the machine comes to its end with this verdict, and this was noted
pub data Run (S : Type 0) (note : Notes S) (test : Test) (chains : Chains) : Config S → Verdict → S → Type 0 where
  ended : {c : Config S} {v : Verdict} {s : S} → machine_step note test chains c ≡ Ends v s → Run S note test chains c v s
  stepped : {c d : Config S} {v : Verdict} {s : S} → machine_step note test chains c ≡ Goes d → Run S note test chains d v s → Run S note test chains c v s

-- ---- which rule decided, on each side of the packet's way

-- the side that the packet is on, if any, and the last reason on each
pub record Reasons : Type 0 where
  pub side : Option Direction
  pub egress : Option Reason
  pub ingress : Option Reason

abbrev pub nothing_noted : Reasons
nothing_noted = record { side = None; egress = None; ingress = None }

-- the jump of the second rule of the first chain is the egress side, that of the third the ingress side
abbrev pub side_at : ℕ → Option Direction
side_at place = if place == 2 then Some Egress else (if place == 3 then Some Ingress else None)

abbrev pub with_reason : Option Direction → Reason → Reasons → Reasons
with_reason None why s = s
with_reason (Some Egress) why s = record s { egress = Some why }
with_reason (Some Ingress) why s = record s { ingress = Some why }

abbrev pub with_tag : Tag → Reasons → Reasons
with_tag Plain s = s
with_tag tag.Log s = s
with_tag (Why why) s = with_reason s.side why s

-- the last reason on each side is kept
unfoldable pub last_reason : Notes Reasons
last_reason name place r s =
    elim (bytes_eq name forward) [ true ↦ record s { side = side_at place } | false ↦ with_tag r.tag s ]

-- ---- the path of a packet

pub record Trace : Type 0 where
  -- the rules that matched and are shown, by chain and place
  pub hops : List (ChainName × ℕ)
  pub reasons : Reasons

abbrev pub is_shown_target : Target → Bool
is_shown_target target.Accept = true
is_shown_target target.Drop = true
is_shown_target target.Return = false
is_shown_target (target.Jump to) = true
is_shown_target (target.Goto to) = true
is_shown_target (target.Mark value mask) = false
is_shown_target target.Log = true

abbrev pub is_plain : Tag → Bool
is_plain Plain = true
is_plain tag.Log = false
is_plain (Why why) = false

-- a rule is shown if it leads somewhere, ends the packet's way or has a reason
abbrev pub is_shown : ChainRule → Bool
is_shown r = is_shown_target r.target || not (is_plain r.tag)

unfoldable pub hops_and_reasons : Notes Trace
hops_and_reasons name place r t =
    record { hops = if is_shown r then t.hops ++ (name, place) ∷ [] else t.hops; reasons = last_reason name place r t.reasons }

-- ---- the whole run, from the first rule of the first chain with mark 0

-- it ends with this verdict and these reasons
abbrev pub Decides : Tables → Packet → Verdict → Option Reason → Option Reason → Type 0
Decides tables a v egress ingress =
    (side : Option Direction) × Run Reasons last_reason (holds tables.sets a) tables.chains (at_rule forward 0 [] 0 nothing_noted) v (record { side = side; egress = egress; ingress = ingress })

-- it ends so, and appends its path to `before`, which gives `after`
abbrev pub Traces : Tables → Packet → List (ChainName × ℕ) → List (ChainName × ℕ) → Verdict → Option Reason → Option Reason → Type 0
Traces tables a before after v egress ingress =
    (side : Option Direction) × Run Trace hops_and_reasons (holds tables.sets a) tables.chains (at_rule forward 0 [] 0 (record { hops = before; reasons = nothing_noted })) v
    (record { hops = after; reasons = record { side = side; egress = egress; ingress = ingress } })

-- whatever the run makes of `before` begins with `cut`, which begins with `before`
abbrev pub CutsRun : Tables → Packet → List (ChainName × ℕ) → List (ChainName × ℕ) → Type 0
CutsRun tables a before cut =
    ((more : List (ChainName × ℕ)) × (cut ≡ before ++ more))
    × ((after : List (ChainName × ℕ)) (v : Verdict) (egress ingress : Option Reason) → Traces tables a before after v egress ingress → (rest : List (ChainName × ℕ)) × (after ≡ cut ++ rest))

-- a run has one end
abbrev pub RunHasOneEnd : Type 0
RunHasOneEnd =
    (tables : Tables) (a : Packet) (v w : Verdict) (e f i j : Option Reason) → Decides tables a v e i → Decides tables a w f j
    → (v ≡ w) × (e ≡ f) × (i ≡ j)
