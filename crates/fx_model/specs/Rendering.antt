-- The chain rules that one rule of a policy or profile is rendered to. A rule of iptables(8) holds all of its matches together,
-- with one source net, one destination net and lists of at most 15 ports by iptables-extensions(8); so a rule with more
-- alternatives becomes blocks of chain rules over marks, as Felix has them, and a main rule that asks for what the blocks left.
use Rattle.std.specs.Prelude.{ℕ, suc, ◌-◌, ◌==◌, List, [], ◌∷◌, ◌++◌, map, Bool, true, false, ◌||◌, nat_eq, nat_le, if◌then◌else◌, Option, Some, None}
use Rattle.std.specs.List.{flat_map}
use Rattle.fx_base.specs.declared.net.Net.{Net}
use Rattle.fx_base.specs.declared.net.PortRange.{PortRange}
use Rattle.fx_base.specs.declared.net.Proto.{Proto}
use Rattle.fx_model.specs.declared.rules.Action.{Action}
use Rattle.fx_model.specs.declared.rules.Action.TheVariants.{Allow, Deny, Log, Pass}
use Rattle.fx_model.specs.declared.rules.Icmp.{Icmp}
use Rattle.fx_model.specs.declared.view_rule.ViewRule.{ViewRule}
use Rattle.fx_model.specs.declared.view_rule.ViewSide.{ViewSide}
use Rattle.fx_model.specs.declared.view_rule.ViewPort.{ViewPort}
use Rattle.fx_model.specs.declared.view_rule.ViewPort.TheVariants.{Range, Named}
use Rattle.fx_model.specs.declared.chain.End.{End}
use Rattle.fx_model.specs.declared.chain.End.TheVariants.{Source, Dest}
use Rattle.fx_model.specs.declared.chain.Match.{Match}
use Rattle.fx_model.specs.declared.chain.Match.TheVariants as match
use Rattle.fx_model.specs.declared.chain.Target.{Target}
use Rattle.fx_model.specs.declared.chain.Target.TheVariants as target
use Rattle.fx_model.specs.declared.chain.Reason.{Reason}
use Rattle.fx_model.specs.declared.chain.Tag.TheVariants as tag
use Rattle.fx_model.specs.declared.chain.ChainRule.{ChainRule}

-- ---- marks

-- the packet is allowed
abbrev pub accept_mark : ℕ
accept_mark = 0x10000

-- the rest of the tier is passed over
abbrev pub pass_mark : ℕ
pass_mark = 0x20000

-- all blocks of the rule held so far
abbrev pub all_blocks : ℕ
all_blocks = 0x40000

-- an alternative of this block held
abbrev pub this_block : ℕ
this_block = 0x80000

abbrev pub plain : List Match → Target → ChainRule
plain ms to = record { matches = ms; target = to; tag = tag.Plain }

abbrev pub tagged : List Match → Target → Reason → ChainRule
tagged ms to why = record { matches = ms; target = to; tag = tag.Why why }

abbrev pub set_mark : ℕ → Target
set_mark m = target.Mark m m

abbrev pub clear_mark : ℕ → Target
clear_mark m = target.Mark 0 m

abbrev pub is_set : ℕ → Match
is_set m = match.Mark m m

abbrev pub is_clear : ℕ → Match
is_clear m = match.Mark 0 m

-- ---- blocks

-- alternatives of which one must match, or else the all-blocks mark is cleared
abbrev pub positive_block : List (List Match) → List ChainRule
positive_block alternatives =
    plain [] (clear_mark this_block)
    ∷ (map (λ ms. plain ms (set_mark this_block)) alternatives ++ plain (is_clear this_block ∷ []) (clear_mark all_blocks) ∷ [])

-- none of these must match
abbrev pub negative_block : List (List Match) → List ChainRule
negative_block alternatives = map (λ ms. plain ms (clear_mark all_blocks)) alternatives

-- ---- nets

abbrev pub one_net : End → Net → List Match
one_net end n = match.Net end n false ∷ []

-- two nets or more are a block, and one is a match of the main rule
abbrev pub net_blocks : End → List Net → List (List ChainRule)
net_blocks end [] = []
net_blocks end (n ∷ []) = []
net_blocks end (n ∷ k ∷ nets) = positive_block (map (one_net end) (n ∷ k ∷ nets)) ∷ []

abbrev pub net_match : End → List Net → List Match
net_match end [] = []
net_match end (n ∷ []) = one_net end n
net_match end (n ∷ k ∷ nets) = []

-- two negated nets or more are a block, and so is one beside a single net, since a rule has one `-s` and one `-d` at most
abbrev pub not_net_blocks : End → List Net → List Net → List (List ChainRule)
not_net_blocks end nets [] = []
not_net_blocks end [] (x ∷ []) = []
not_net_blocks end (n ∷ []) (x ∷ []) = negative_block (map (one_net end) (x ∷ [])) ∷ []
not_net_blocks end (n ∷ k ∷ nets) (x ∷ []) = []
not_net_blocks end nets (x ∷ y ∷ others) = negative_block (map (one_net end) (x ∷ y ∷ others)) ∷ []

abbrev pub not_net_match : End → List Net → List Net → List Match
not_net_match end nets [] = []
not_net_match end [] (x ∷ []) = match.Net end x true ∷ []
not_net_match end (n ∷ []) (x ∷ []) = []
not_net_match end (n ∷ k ∷ nets) (x ∷ []) = match.Net end x true ∷ []
not_net_match end nets (x ∷ y ∷ others) = []

-- ---- protocols and ICMP

-- a negated protocol is asked for only where no protocol is
abbrev pub proto_match : Option Proto → Option Proto → List Match
proto_match None None = []
proto_match None (Some q) = match.Proto q true ∷ []
proto_match (Some p) q = match.Proto p false ∷ []

abbrev pub icmp_match : Bool → Option Icmp → List Match
icmp_match opposite None = []
icmp_match opposite (Some m) = match.Icmp m opposite ∷ []

-- ---- ports, cut greedily into lists of at most 15 slots

-- a true range takes two slots
abbrev pub slots_of : PortRange → ℕ
slots_of r = if r.low == r.high then 1 else 2

abbrev pub onto_first : PortRange → List (List PortRange) → List (List PortRange)
onto_first r [] = (r ∷ []) ∷ []
onto_first r (c ∷ cs) = (r ∷ c) ∷ cs

-- the first list still has this much room
abbrev pub lists_from : ℕ → List PortRange → List (List PortRange)
lists_from room [] = [] ∷ []
lists_from room (r ∷ rs) =
    elim (nat_le (slots_of r) room) [
      | true ↦ onto_first r (lists_from (room - slots_of r) rs)
      | false ↦ [] ∷ onto_first r (lists_from (15 - slots_of r) rs)
    ]

abbrev pub port_lists : List PortRange → List (List PortRange)
port_lists [] = []
port_lists (r ∷ rs) = lists_from 15 (r ∷ rs)

abbrev pub range_of : ViewPort → List PortRange
range_of (Range r) = r ∷ []
range_of (Named name) = []

abbrev pub set_of_port : ViewPort → List (List ℕ)
set_of_port (Range r) = []
set_of_port (Named name) = name ∷ []

-- the numbers and ranges, in order
abbrev pub ranges_of : List ViewPort → List PortRange
ranges_of ps = flat_map range_of ps

-- the sets, in order
abbrev pub names_of : List ViewPort → List (List ℕ)
names_of ps = flat_map set_of_port ps

-- what one match can ask for: a list of ports, or a set
pub data PortChoice : Type 0 where
  Listed : List PortRange → PortChoice
  InSet : List ℕ → PortChoice

-- first the numbers and ranges, and then the sets
abbrev pub port_choices : List ViewPort → List PortChoice
port_choices ps = map Listed (port_lists (ranges_of ps)) ++ map InSet (names_of ps)

-- `-p` stands before a match on ports, which needs it
abbrev pub choice_alternative : End → Option Proto → PortChoice → List Match
choice_alternative end proto (Listed c) = proto_match proto None ++ match.Ports end c false ∷ []
choice_alternative end proto (InSet name) = match.Set end name false ∷ []

-- two choices or more are a block, and one is a match of the main rule
abbrev pub port_blocks : End → Option Proto → List PortChoice → List (List ChainRule)
port_blocks end proto [] = []
port_blocks end proto (c ∷ []) = []
port_blocks end proto (c ∷ d ∷ cs) = positive_block (map (choice_alternative end proto) (c ∷ d ∷ cs)) ∷ []

abbrev pub listed_match : End → List PortChoice → List Match
listed_match end [] = []
listed_match end (Listed c ∷ []) = match.Ports end c false ∷ []
listed_match end (InSet name ∷ []) = []
listed_match end (c ∷ d ∷ cs) = []

abbrev pub in_set_match : End → List PortChoice → List Match
in_set_match end [] = []
in_set_match end (Listed c ∷ []) = []
in_set_match end (InSet name ∷ []) = match.Set end name false ∷ []
in_set_match end (c ∷ d ∷ cs) = []

-- each negated list and each negated set is a match of its own
abbrev pub not_listed_match : End → List ViewPort → List Match
not_listed_match end ps = map (λ c. match.Ports end c true) (port_lists (ranges_of ps))

abbrev pub not_in_set_match : End → List ViewPort → List Match
not_in_set_match end ps = map (λ name. match.Set end name true) (names_of ps)

-- ---- sets of nets

abbrev pub set_match : End → Bool → Option (List ℕ) → List Match
set_match end opposite None = []
set_match end opposite (Some name) = match.Set end name opposite ∷ []

-- ---- one rule

abbrev pub blocks_of : ViewRule → List (List ChainRule)
blocks_of r =
    net_blocks Source r.source.nets ++ (net_blocks Dest r.destination.nets
    ++ (port_blocks Source r.protocol (port_choices r.source.ports) ++ (port_blocks Dest r.protocol (port_choices r.destination.ports)
    ++ (not_net_blocks Source r.source.nets r.source.not_nets ++ not_net_blocks Dest r.destination.nets r.destination.not_nets))))

abbrev pub joined : List (List ChainRule) → List ChainRule
joined [] = []
joined (b ∷ blocks) = b ++ joined blocks

-- the all-blocks mark is set, and each block may clear it
abbrev pub block_rules : List (List ChainRule) → List ChainRule
block_rules [] = []
block_rules (b ∷ blocks) = plain [] (set_mark all_blocks) ∷ joined (b ∷ blocks)

abbrev pub block_match : List (List ChainRule) → List Match
block_match [] = []
block_match (b ∷ blocks) = is_set all_blocks ∷ []

abbrev pub nets_match : End → ViewSide → List Match
nets_match end s = net_match end s.nets ++ not_net_match end s.nets s.not_nets

abbrev pub sets_match : End → ViewSide → List Match
sets_match end s =
    set_match end false s.set ++ (set_match end true s.not_set ++ (in_set_match end (port_choices s.ports) ++ not_in_set_match end s.not_ports))

abbrev pub ports_match : End → ViewSide → List Match
ports_match end s = listed_match end (port_choices s.ports) ++ not_listed_match end s.not_ports

-- what is in no block, and what the blocks left
abbrev pub main_matches : ViewRule → List Match
main_matches r =
    proto_match r.protocol r.not_protocol ++ (nets_match Source r.source ++ (nets_match Dest r.destination
    ++ (block_match (blocks_of r) ++ (sets_match Source r.source ++ (sets_match Dest r.destination
    ++ (ports_match Source r.source ++ (ports_match Dest r.destination ++ (icmp_match false r.icmp ++ icmp_match true r.not_icmp))))))))

-- what a rule does with a packet that meets these matches
abbrev pub main_rules : Action → List Match → Reason → List ChainRule
main_rules Allow ms why = tagged ms (set_mark accept_mark) why ∷ plain (is_set accept_mark ∷ []) target.Return ∷ []
main_rules Deny ms why = tagged ms target.Drop why ∷ []
main_rules Log ms why = record { matches = ms; target = target.Log; tag = tag.Log } ∷ []
main_rules Pass ms why = tagged ms (set_mark pass_mark) why ∷ plain (is_set pass_mark ∷ []) target.Return ∷ []

-- a protocol that is also excluded
abbrev pub is_void : Option Proto → Option Proto → Bool
is_void None q = false
is_void (Some p) None = false
is_void (Some p) (Some q) = nat_eq p.0 q.0

-- a rule that no packet can meet gives nothing
abbrev pub rendered_rule : ViewRule → Reason → List ChainRule
rendered_rule r why =
    elim (r.never || is_void r.protocol r.not_protocol) [
      | true ↦ []
      | false ↦ block_rules (blocks_of r) ++ main_rules r.action (main_matches r) why
    ]

-- rules in order, each told by its place
abbrev pub rendered_rules : (ℕ → Reason) → ℕ → List ViewRule → List ChainRule
rendered_rules why place [] = []
rendered_rules why place (r ∷ rs) = rendered_rule r (why place) ++ rendered_rules why (suc place) rs
