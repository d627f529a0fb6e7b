-- Matches of rules as text, as iptables-save(8) writes them, in the options of iptables(8) and iptables-extensions(8).
use Rattle.std.specs.Prelude.{ℕ, ◌==◌, if◌then◌else◌, List, [], ◌∷◌, ◌++◌, Bool, true, false, Option, Some, None, codes, decimal}
use Rattle.std.specs.List.{flat_map}
use Rattle.std.specs.Fmt.{digits}
use Rattle.fx_base.specs.declared.net.PortRange.{PortRange}
use Rattle.fx_base.specs.declared.set_name.SetKind.{SetKind}
use Rattle.fx_base.specs.declared.set_name.SetKind.TheVariants.{Nets, Ports}
use Rattle.fx_base.specs.SetName.{kind_of}
use Rattle.fx_model.specs.declared.rules.Icmp.{Icmp}
use Rattle.fx_model.specs.declared.chain.End.{End}
use Rattle.fx_model.specs.declared.chain.End.TheVariants.{Source, Dest}
use Rattle.fx_model.specs.declared.chain.Match.{Match}
use Rattle.fx_model.specs.declared.chain.Match.TheVariants as match
use Rattle.fx_model.specs.MemberTexts.{net_text, protocol_text}

abbrev pub hex : ℕ → List ℕ
hex n = codes "0x" ++ digits 16 false n

-- a mark's value and the bits of it that count
abbrev pub mark_text : ℕ → ℕ → List ℕ
mark_text value mask = hex value ++ (codes "/" ++ hex mask)

abbrev pub iface_option : End → List ℕ
iface_option Source = codes "-i "
iface_option Dest = codes "-o "

-- a wild name stands for all interfaces that begin with it
abbrev pub wild_sign : Bool → List ℕ
wild_sign true = codes "+"
wild_sign false = []

abbrev pub states_text : Bool → List ℕ
states_text true = codes "RELATED,ESTABLISHED"
states_text false = codes "INVALID"

-- what turns an option round
abbrev pub not_sign : Bool → List ℕ
not_sign true = codes "! "
not_sign false = []

abbrev pub net_option : End → List ℕ
net_option Source = codes "-s "
net_option Dest = codes "-d "

-- what of a packet is looked up in a set of this kind
abbrev pub set_flags : SetKind → End → List ℕ
set_flags Nets Source = codes " src"
set_flags Nets Dest = codes " dst"
set_flags Ports Source = codes " src,src"
set_flags Ports Dest = codes " dst,dst"

abbrev pub ports_option : End → List ℕ
ports_option Source = codes "--sports "
ports_option Dest = codes "--dports "

-- one number, or the first and the last
abbrev pub range_text : PortRange → List ℕ
range_text r = decimal r.low ++ (if r.low == r.high then [] else codes ":" ++ decimal r.high)

abbrev pub later_ranges : List PortRange → List ℕ
later_ranges rs = flat_map (λ r. codes "," ++ range_text r) rs

abbrev pub ranges_text : List PortRange → List ℕ
ranges_text [] = []
ranges_text (r ∷ rs) = range_text r ++ later_ranges rs

abbrev pub code_text : Option ℕ → List ℕ
code_text None = []
code_text (Some code) = codes "/" ++ decimal code

abbrev pub icmp_text : Icmp → List ℕ
icmp_text m = decimal m.kind ++ code_text m.code

abbrev pub match_text : Match → List ℕ
match_text (match.Proto proto opposite) = not_sign opposite ++ (codes "-p " ++ protocol_text proto)
match_text (match.Net end net opposite) = not_sign opposite ++ (net_option end ++ net_text net)
match_text (match.Iface end name wild) = iface_option end ++ (name ++ wild_sign wild)
match_text (match.Mark value mask) = codes "-m mark --mark " ++ mark_text value mask
match_text (match.State related) = codes "-m conntrack --ctstate " ++ states_text related
match_text (match.Set end name opposite) = codes "-m set " ++ (not_sign opposite ++ (codes "--match-set " ++ (name ++ set_flags (kind_of name) end)))
match_text (match.Ports end list opposite) = codes "-m multiport " ++ (not_sign opposite ++ (ports_option end ++ ranges_text list))
match_text (match.Icmp icmp opposite) = codes "-m icmp " ++ (not_sign opposite ++ (codes "--icmp-type " ++ icmp_text icmp))
