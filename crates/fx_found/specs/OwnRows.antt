-- Own rows, and how the tables print them.
use Rattle.std.specs.Prelude.{◌≡◌, ℕ, List, [], Bool, true, false}
use Rattle.fx_rows.specs.RowTexts.{create_text, add_text, header_text, chain_rule_text}
use Rattle.fx_found.specs.declared.row.Row.{Row}
use Rattle.fx_found.specs.declared.row.Row.TheVariants as row
use Rattle.fx_found.specs.NameForms.{is_set_name, is_own_chain, is_chain_name}
use Rattle.fx_found.specs.RuleRows.{IsRowRule, IsHeld}
use Rattle.fx_found.specs.MemberRows.{IsRowMember, AreHeld}

abbrev pub says_own : Row → Bool
says_own row.Bad = false
says_own row.Filter = false
says_own row.Commit = false
says_own (row.Create name) = true
says_own (row.Add name m) = true
says_own (row.Header chain) = true
says_own (row.Rule chain r) = true
says_own row.ForeignSet = false
says_own row.ForeignHeader = false
says_own (row.ForeignRule uses) = false

-- the text of an own row
abbrev pub row_text : Row → List ℕ
row_text row.Bad = []
row_text row.Filter = []
row_text row.Commit = []
row_text (row.Create name) = create_text name
row_text (row.Add name m) = add_text name m
row_text (row.Header chain) = header_text chain
row_text (row.Rule chain r) = chain_rule_text chain r
row_text row.ForeignSet = []
row_text row.ForeignHeader = []
row_text (row.ForeignRule uses) = []

abbrev pub IsOwnChain : List ℕ → Type 0
IsOwnChain name = (is_own_chain name ≡ true) × (is_chain_name name ≡ true)

-- a row of an own set or chain, with a member that the set takes or a rule that has rows
abbrev pub IsOwnRow : Row → Type 0
IsOwnRow row.Bad = ⊥
IsOwnRow row.Filter = ⊥
IsOwnRow row.Commit = ⊥
IsOwnRow (row.Create name) = is_set_name name ≡ true
IsOwnRow (row.Add name m) = (is_set_name name ≡ true) × IsRowMember name m
IsOwnRow (row.Header chain) = IsOwnChain chain
IsOwnRow (row.Rule chain r) = IsOwnChain chain × IsRowRule r
IsOwnRow row.ForeignSet = ⊥
IsOwnRow row.ForeignHeader = ⊥
IsOwnRow (row.ForeignRule uses) = ⊥

-- what the types of a row's numbers hold, where a law ranges over all numbers
abbrev pub IsRowHeld : Row → Type 0
IsRowHeld row.Bad = Unit {0}
IsRowHeld row.Filter = Unit {0}
IsRowHeld row.Commit = Unit {0}
IsRowHeld (row.Create name) = Unit {0}
IsRowHeld (row.Add name m) = AreHeld m
IsRowHeld (row.Header chain) = Unit {0}
IsRowHeld (row.Rule chain r) = IsHeld r
IsRowHeld row.ForeignSet = Unit {0}
IsRowHeld row.ForeignHeader = Unit {0}
IsRowHeld (row.ForeignRule uses) = Unit {0}
