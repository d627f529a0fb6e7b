-- Rows without a newline: those of sets as ipset(8) saves them, and those of chains as iptables-save(8) writes them.
use Rattle.std.specs.Prelude.{ℕ, List, ◌++◌, codes}
use Rattle.fx_model.specs.declared.member.Member.{Member}
use Rattle.fx_model.specs.declared.chain.ChainRule.{ChainRule}
use Rattle.fx_model.specs.Tables.{ChainName}
use Rattle.fx_model.specs.MemberTexts.{member_text, type_text}
use Rattle.fx_model.specs.TableTexts.{matches_text, target_text}

abbrev pub create_text : List ℕ → List ℕ
create_text name = codes "create " ++ (name ++ (codes " " ++ type_text name))

abbrev pub add_text : List ℕ → Member → List ℕ
add_text name m = codes "add " ++ (name ++ (codes " " ++ member_text m))

abbrev pub header_text : ChainName → List ℕ
header_text chain = codes ":" ++ (chain ++ codes " - [0:0]")

-- a rule without its chain
abbrev pub rule_text : ChainRule → List ℕ
rule_text r = matches_text r.matches ++ target_text r.target

abbrev pub chain_rule_text : ChainName → ChainRule → List ℕ
chain_rule_text chain r = codes "-A " ++ (chain ++ (codes " " ++ rule_text r))
