-- The tables as text, each line with its newline: sets as ipset(8) saves them, chains as iptables-save(8) writes them.
use Rattle.std.specs.Prelude.{List, [], ◌∷◌, ◌++◌, codes, map, ℕ}
use Rattle.std.specs.List.{flat_map}
use Rattle.std.specs.FinMap as maps
use Rattle.fx_base.specs.Set as set
use Rattle.fx_model.specs.declared.member.Member.{Member}
use Rattle.fx_model.specs.declared.chain.Match.{Match}
use Rattle.fx_model.specs.declared.chain.Target.{Target}
use Rattle.fx_model.specs.declared.chain.Target.TheVariants as target
use Rattle.fx_model.specs.declared.chain.ChainRule.{ChainRule}
use Rattle.fx_model.specs.Tables.{Tables, Chains, ChainName}
use Rattle.fx_model.specs.Messages.{Members}
use Rattle.fx_model.specs.MemberTexts.{member_text, type_text}
use Rattle.fx_model.specs.MatchTexts.{mark_text, match_text}

-- ---- sets

abbrev pub create_line : List ℕ → List ℕ
create_line name = codes "create " ++ (name ++ (codes " " ++ (type_text name ++ codes "\n")))

abbrev pub add_line : List ℕ → Member → List ℕ
add_line name m = codes "add " ++ (name ++ (codes " " ++ (member_text m ++ codes "\n")))

abbrev pub set_lines : List ℕ × Members → List (List ℕ)
set_lines e = create_line e.0 ∷ map (add_line e.0) (set.items e.1)

-- ---- rules

abbrev pub target_text : Target → List ℕ
target_text target.Accept = codes "-j ACCEPT"
target_text target.Drop = codes "-j DROP"
target_text target.Return = codes "-j RETURN"
target_text (target.Jump chain) = codes "-j " ++ chain
target_text (target.Goto chain) = codes "-g " ++ chain
target_text (target.Mark value mask) = codes "-j MARK --set-xmark " ++ mark_text value mask
target_text target.Log = codes "-j LOG"

-- each match with a space behind it
abbrev pub matches_text : List Match → List ℕ
matches_text ms = flat_map (λ m. match_text m ++ codes " ") ms

abbrev pub rule_line : ChainName → ChainRule → List ℕ
rule_line chain r = codes "-A " ++ (chain ++ (codes " " ++ (matches_text r.matches ++ (target_text r.target ++ codes "\n"))))

-- ---- chains

abbrev pub header_line : ChainName → List ℕ
header_line chain = codes ":" ++ (chain ++ codes " - [0:0]\n")

abbrev pub header_lines : Chains → List (List ℕ)
header_lines chains = map (λ e. header_line e.0) (maps.entries chains)

abbrev pub chain_lines : ChainName × List ChainRule → List (List ℕ)
chain_lines e = map (rule_line e.0) e.1

-- ---- all of it

-- sets, chains and rules by their names, the members of a set in order, the rules of a chain by their places
abbrev pub table_lines : Tables → List (List ℕ)
table_lines t =
    flat_map set_lines (maps.entries t.sets) ++ (codes "*filter\n" ∷ (header_lines t.chains
    ++ (flat_map chain_lines (maps.entries t.chains) ++ codes "COMMIT\n" ∷ [])))
