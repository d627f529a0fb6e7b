-- The rule behind a chain's name in a row, as iptables-save(8) writes it: the rule of these shapes that prints so. It is read word by
-- word without much care, and kept if it prints as the text does.
use Rattle.std.specs.Prelude.{◌≡◌, ◌<◌, ◌^◌, ℕ, zero, suc, ◌-◌, ◌==◌, List, [], ◌∷◌, ◌++◌, Bool, true, false, ◌&&◌, not, if◌then◌else◌, length, take, nat_eq, codes, Option, Some, None, option_map}
use Rattle.std.specs.List.{list_any, starts_with, ends_with, AllByRecursion}
use Rattle.std.specs.Str.{bytes_eq}
use Rattle.fx_base.specs.declared.net.PortRange.{PortRange}
use Rattle.fx_model.specs.declared.chain.End.{End}
use Rattle.fx_model.specs.declared.chain.End.TheVariants.{Source, Dest}
use Rattle.fx_model.specs.declared.chain.Match.{Match}
use Rattle.fx_model.specs.declared.chain.Match.TheVariants as match
use Rattle.fx_model.specs.declared.chain.Target.{Target}
use Rattle.fx_model.specs.declared.chain.Target.TheVariants as target
use Rattle.fx_model.specs.declared.chain.Tag.TheVariants as tag
use Rattle.fx_model.specs.declared.chain.ChainRule.{ChainRule}
use Rattle.fx_model.specs.Shapes.{has_shape}
use Rattle.fx_model.specs.Tables.{ChainName}
use Rattle.fx_rows.specs.RowTexts.{rule_text}
use Rattle.fx_found.specs.declared.rules.RulePart.{RulePart}
use Rattle.fx_found.specs.declared.rules.RulePart.TheVariants as part
use Rattle.fx_found.specs.Pieces.{word, rest}
use Rattle.fx_found.specs.Values.{kept, mark_in, protocol_in, icmp_in, net_in, ranges_in}
use Rattle.fx_found.specs.NameForms.{is_set_name, is_target_name}

-- ---- single words, and options with their values

abbrev pub is_not : List ℕ → Bool
is_not text = bytes_eq (word text) (codes "!")

-- what stands behind a `!`, if there is one
abbrev pub past_not : List ℕ → List ℕ
past_not text = if is_not text then rest text else text

-- a name with a `+` behind it is wild
abbrev pub ends_wild : List ℕ → Bool
ends_wild name = ends_with nat_eq name (codes "+")

abbrev pub iface_match : End → List ℕ → Match
iface_match end name = if ends_wild name then match.Iface end (take (length name - 1) name) true else match.Iface end name false

abbrev pub end_of_flags : List ℕ → End
end_of_flags flags = if starts_with nat_eq flags (codes "src") then Source else Dest

abbrev pub end_of_ports : List ℕ → End
end_of_ports option = if bytes_eq option (codes "--sports") then Source else Dest

-- `-p`, `-s`, `-d`, `-i` and `-o` with the word behind it
unfoldable pub field_match : Bool → List ℕ → List ℕ → Option Match
field_match opposite option value =
    if bytes_eq option (codes "-p") then option_map (λ p. match.Proto p opposite) (protocol_in value)
    else (if bytes_eq option (codes "-s") then option_map (λ n. match.Net Source n opposite) (net_in value)
    else (if bytes_eq option (codes "-d") then option_map (λ n. match.Net Dest n opposite) (net_in value)
    else (if bytes_eq option (codes "-i") then Some (iface_match Source value)
    else (if bytes_eq option (codes "-o") then Some (iface_match Dest value)
    else None))))

-- `-m set`
abbrev pub set_match : Bool → List ℕ → List ℕ → Option Match
set_match opposite name flags = if is_set_name name then Some (match.Set (end_of_flags flags) name opposite) else None

-- the other modules, each with an option and a value
unfoldable pub module_match : List ℕ → Bool → List ℕ → List ℕ → Option Match
module_match name opposite option value =
    if bytes_eq name (codes "mark") then option_map (λ m. match.Mark m.0 m.1) (mark_in value)
    else (if bytes_eq name (codes "conntrack") then Some (match.State (not (bytes_eq value (codes "INVALID"))))
    else (if bytes_eq name (codes "multiport") then option_map (λ list. match.Ports (end_of_ports option) list opposite) (ranges_in value)
    else (if bytes_eq name (codes "icmp") then option_map (λ icmp. match.Icmp icmp opposite) (icmp_in value)
    else None)))

abbrev pub named_chain : List ℕ → Option ChainName
named_chain name = if is_target_name name then Some name else None

-- what stands behind `-j`
unfoldable pub jump_in : List ℕ → Option Target
jump_in text =
    if bytes_eq (word text) (codes "ACCEPT") then Some target.Accept
    else (if bytes_eq (word text) (codes "DROP") then Some target.Drop
    else (if bytes_eq (word text) (codes "RETURN") then Some target.Return
    else (if bytes_eq (word text) (codes "LOG") then Some target.Log
    else (if bytes_eq (word text) (codes "MARK") then option_map (λ m. target.Mark m.0 m.1) (mark_in (word (rest (rest text))))
    else option_map target.Jump (named_chain (word text))))))

-- ---- a match or the target, and the text behind it

abbrev pub matched : List ℕ → Option Match → Option (RulePart × List ℕ)
matched text found = option_map (λ m. (part.Match m, text)) found

abbrev pub aimed : Option Target → Option (RulePart × List ℕ)
aimed found = option_map (λ t. (part.Target t, [])) found

-- behind `-m` and a module's name
unfoldable pub module_in : List ℕ → List ℕ → Option (RulePart × List ℕ)
module_in name text =
    let options = past_not text in
    let values = rest options in
    if bytes_eq name (codes "set") then matched (rest (rest values)) (set_match (is_not text) (word values) (word (rest values)))
    else matched (rest values) (module_match name (is_not text) (word options) (word values))

-- behind an option, and maybe a `!` before it
unfoldable pub option_in : Bool → List ℕ → List ℕ → Option (RulePart × List ℕ)
option_in opposite option text =
    if bytes_eq option (codes "-m") then module_in (word text) (rest text)
    else (if bytes_eq option (codes "-j") then aimed (jump_in text)
    else (if bytes_eq option (codes "-g") then aimed (option_map target.Goto (named_chain (word text)))
    else matched (rest text) (field_match opposite option (word text))))

unfoldable pub part_in : List ℕ → Option (RulePart × List ℕ)
part_in [] = None
part_in (c ∷ cs) = let options = past_not (c ∷ cs) in option_in (is_not (c ∷ cs)) (word options) (rest options)

-- ---- the rule

-- what the next part makes of the matches so far
abbrev pub taken : (List Match → List ℕ → Option ChainRule) → List Match → Option (RulePart × List ℕ) → Option ChainRule
taken later ms None = None
taken later ms (Some (part.Match m, text)) = later (ms ++ m ∷ []) text
taken later ms (Some (part.Target t, text)) = Some (record { matches = ms; target = t; tag = tag.Plain })

-- at most so many parts, behind the matches so far
abbrev pub rule_after : ℕ → List Match → List ℕ → Option ChainRule
rule_after zero ms text = None
rule_after (suc n) ms text = taken (λ more behind. rule_after n more behind) ms (part_in text)

-- no rule has more parts than its text has bytes
unfoldable pub rule_read : List ℕ → Option ChainRule
rule_read text = rule_after (length text) [] text

unfoldable pub rule_of : List ℕ → Option ChainRule
rule_of text = kept (λ r. has_shape r && bytes_eq (rule_text r) text) (rule_read text)

-- ---- which rules have rows

abbrev pub has_space : List ℕ → Bool
has_space text = list_any (λ c. c == 32) text

-- names that a row can hold: none has a space, the `+` at the end of an interface is a sign, and sets are Felix's
abbrev pub HasRowNames : Match → Type 0
HasRowNames (match.Proto proto opposite) = Unit {0}
HasRowNames (match.Net end net opposite) = Unit {0}
HasRowNames (match.Iface end name wild) = (has_space name ≡ false) × ((ends_wild name && not wild) ≡ false)
HasRowNames (match.Mark value mask) = Unit {0}
HasRowNames (match.State related_established) = Unit {0}
HasRowNames (match.Set end name opposite) = is_set_name name ≡ true
HasRowNames (match.Ports end list opposite) = Unit {0}
HasRowNames (match.Icmp icmp opposite) = Unit {0}

abbrev pub LeadsByName : Target → Type 0
LeadsByName target.Accept = Unit {0}
LeadsByName target.Drop = Unit {0}
LeadsByName target.Return = Unit {0}
LeadsByName (target.Jump chain) = is_target_name chain ≡ true
LeadsByName (target.Goto chain) = is_target_name chain ≡ true
LeadsByName (target.Mark value mask) = Unit {0}
LeadsByName target.Log = Unit {0}

pub record IsRowRule (r : ChainRule) : Type 0 where
  pub untagged : r.tag ≡ tag.Plain
  pub shaped : has_shape r ≡ true
  pub names : AllByRecursion HasRowNames r.matches
  pub leads : LeadsByName r.target

-- ---- what the types of a rule's numbers hold, where a law ranges over all numbers

abbrev pub IsRangeHeld : PortRange → Type 0
IsRangeHeld r = r.high < 2 ^ 16

abbrev pub IsCodeHeld : Option ℕ → Type 0
IsCodeHeld None = Unit {0}
IsCodeHeld (Some code) = code < 2 ^ 8

abbrev pub AreNumbersHeld : Match → Type 0
AreNumbersHeld (match.Proto proto opposite) = proto.0 < 2 ^ 8
AreNumbersHeld (match.Net end net opposite) = net.addr.0 < 2 ^ 32
AreNumbersHeld (match.Iface end name wild) = Unit {0}
AreNumbersHeld (match.Mark value mask) = (value < 2 ^ 32) × (mask < 2 ^ 32)
AreNumbersHeld (match.State related_established) = Unit {0}
AreNumbersHeld (match.Set end name opposite) = Unit {0}
AreNumbersHeld (match.Ports end list opposite) = AllByRecursion IsRangeHeld list
AreNumbersHeld (match.Icmp icmp opposite) = (icmp.kind < 2 ^ 8) × IsCodeHeld icmp.code

abbrev pub IsMarkHeld : Target → Type 0
IsMarkHeld target.Accept = Unit {0}
IsMarkHeld target.Drop = Unit {0}
IsMarkHeld target.Return = Unit {0}
IsMarkHeld (target.Jump chain) = Unit {0}
IsMarkHeld (target.Goto chain) = Unit {0}
IsMarkHeld (target.Mark value mask) = (value < 2 ^ 32) × (mask < 2 ^ 32)
IsMarkHeld target.Log = Unit {0}

pub record IsHeld (r : ChainRule) : Type 0 where
  pub matches : AllByRecursion AreNumbersHeld r.matches
  pub target : IsMarkHeld r.target
