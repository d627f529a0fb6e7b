-- What a row says by itself. Rows are those of ipset(8), `create` and `add`, and of iptables-save(8): `*filter`, a chain's header behind
-- `:`, a rule behind `-A`, and `COMMIT`. A name is the longest run of bytes other than the space. An own row is as the tables print it;
-- all others are foreign, and aren't read further.
use Rattle.std.specs.Prelude.{ℕ, List, [], ◌∷◌, Bool, true, false, ◌&&◌, ◌||◌, if◌then◌else◌, drop, nat_eq, codes, Option, Some, None}
use Rattle.std.specs.List.{list_any, starts_with}
use Rattle.std.specs.Str.{bytes_eq}
use Rattle.fx_model.specs.declared.member.Member.{Member}
use Rattle.fx_model.specs.declared.chain.ChainRule.{ChainRule}
use Rattle.fx_rows.specs.RowTexts.{create_text, header_text}
use Rattle.fx_found.specs.declared.row.Row.{Row}
use Rattle.fx_found.specs.declared.row.Row.TheVariants as row
use Rattle.fx_found.specs.Pieces.{word, rest, words}
use Rattle.fx_found.specs.NameForms.{is_own_set, is_set_name, is_own_chain, is_chain_name, is_own_word}
use Rattle.fx_found.specs.MemberRows.{member_of}
use Rattle.fx_found.specs.RuleRows.{rule_of}

abbrev pub is_empty : List ℕ → Bool
is_empty [] = true
is_empty (c ∷ cs) = false

-- by the name in it: none, one of others, or an own one
abbrev pub named_row : (List ℕ → Bool) → Row → (List ℕ → Row) → List ℕ → Row
named_row is_own foreign own name = if is_empty name then row.Bad else (if is_own name then own name else foreign)

-- ---- sets

abbrev pub own_create : List ℕ → List ℕ → Row
own_create text name = if is_set_name name && bytes_eq (create_text name) text then row.Create name else row.Bad

abbrev pub added : List ℕ → Option Member → Row
added name None = row.Bad
added name (Some m) = row.Add name m

abbrev pub own_add : List ℕ → List ℕ → Row
own_add text name = if is_set_name name then added name (member_of name text) else row.Bad

-- ---- chains

abbrev pub own_header : List ℕ → List ℕ → Row
own_header text name = if is_chain_name name && bytes_eq (header_text name) text then row.Header name else row.Bad

abbrev pub ruled : List ℕ → Option ChainRule → Row
ruled name None = row.Bad
ruled name (Some r) = row.Rule name r

abbrev pub own_rule : List ℕ → List ℕ → Row
own_rule text name = if is_chain_name name then ruled name (rule_of text) else row.Bad

abbrev pub uses_own : List ℕ → Bool
uses_own text = list_any is_own_word (words text)

-- ---- the row

-- behind `create `, `add `, `:` and `-A `
abbrev pub create_row : List ℕ → Row
create_row text = named_row is_own_set row.ForeignSet (own_create text) (word (drop 7 text))

abbrev pub add_row : List ℕ → Row
add_row text = named_row is_own_set row.ForeignSet (own_add (rest (drop 4 text))) (word (drop 4 text))

abbrev pub header_row : List ℕ → Row
header_row text = named_row is_own_chain row.ForeignHeader (own_header text) (word (drop 1 text))

abbrev pub rule_row : List ℕ → Row
rule_row text = named_row is_own_chain (row.ForeignRule (uses_own text)) (own_rule (rest (drop 3 text))) (word (drop 3 text))

unfoldable pub row_of : List ℕ → Row
row_of text =
    if bytes_eq text (codes "*filter") then row.Filter
    else (if bytes_eq text (codes "COMMIT") then row.Commit
    else (if starts_with nat_eq text (codes "create ") then create_row text
    else (if starts_with nat_eq text (codes "add ") then add_row text
    else (if starts_with nat_eq text (codes ":") then header_row text
    else (if starts_with nat_eq text (codes "-A ") then rule_row text
    else row.Bad)))))

-- a row is own where its name is
abbrev pub is_own : List ℕ → Bool
is_own text =
    starts_with nat_eq text (codes "create cali40") || (starts_with nat_eq text (codes "add cali40")
    || (starts_with nat_eq text (codes ":cali-") || starts_with nat_eq text (codes "-A cali-")))
