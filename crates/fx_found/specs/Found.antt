-- What the rows of a node's tables are read as: the own sets and chains, and the rows that aren't own; or the first fault.
use Rattle.std.specs.Prelude.{ℕ, List, [], ◌∷◌, not, if◌then◌else◌, map, filter, Option, Some, None, Result, Ok, Err}
use Rattle.std.specs.List.{flat_map}
use Rattle.std.specs.FinMap as maps
use Rattle.std.specs.Str.{bytes_eq}
use Rattle.fx_base.specs.Extended.{extended}
use Rattle.fx_model.specs.declared.chain.ChainRule.{ChainRule}
use Rattle.fx_model.specs.Tables.{ChainName, Tables}
use Rattle.fx_found.specs.declared.row.Row.{Row}
use Rattle.fx_found.specs.declared.row.Row.TheVariants as row
use Rattle.fx_found.specs.declared.found.Found.{Found}
use Rattle.fx_found.specs.declared.found.FoundFault.{FoundFault}
use Rattle.fx_found.specs.Rows.{row_of, is_own}
use Rattle.fx_found.specs.Order.{declared_by, placed}
use Rattle.fx_found.specs.RuleFaults.{first_fault}

-- ---- the chains

-- the chains that have headers
abbrev pub header_of : Row → List ChainName
header_of row.Bad = []
header_of row.Filter = []
header_of row.Commit = []
header_of (row.Create set) = []
header_of (row.Add set m) = []
header_of (row.Header chain) = chain ∷ []
header_of (row.Rule chain r) = []
header_of row.ForeignSet = []
header_of row.ForeignHeader = []
header_of (row.ForeignRule uses) = []

abbrev pub headers_of : List Row → List ChainName
headers_of rows = flat_map header_of rows

-- the rules of a chain, in the order of their rows
abbrev pub rule_at : ChainName → Row → List ChainRule
rule_at name row.Bad = []
rule_at name row.Filter = []
rule_at name row.Commit = []
rule_at name (row.Create set) = []
rule_at name (row.Add set m) = []
rule_at name (row.Header chain) = []
rule_at name (row.Rule chain r) = if bytes_eq chain name then r ∷ [] else []
rule_at name row.ForeignSet = []
rule_at name row.ForeignHeader = []
rule_at name (row.ForeignRule uses) = []

abbrev pub rules_at : ChainName → List Row → List ChainRule
rules_at name rows = flat_map (rule_at name) rows

-- each chain that has a header, with its rules
abbrev pub writes_of : List Row → List (ChainName × List ChainRule)
writes_of rows = map (λ name. (name, rules_at name rows)) (headers_of rows)

-- ---- all of it

abbrev pub no_tables : Tables
no_tables = record { sets = maps.empty; chains = maps.empty }

abbrev pub declared : List Row → Tables
declared rows = declared_by no_tables rows

abbrev pub tables_in : List Row → Tables
tables_in rows = let t = declared rows in record t { chains = extended t.chains (writes_of rows) }

abbrev pub foreign_rows : List (List ℕ) → List (List ℕ)
foreign_rows texts = filter (λ text. not (is_own text)) texts

-- with the foreign rows, where the tables have no fault
abbrev pub found_with : Tables → Result (List (List ℕ)) FoundFault → Result Found FoundFault
found_with t (Ok foreign) = Ok (record { tables = t; foreign = foreign })
found_with t (Err told) = Err told

abbrev pub judged : Result (Unit {0}) FoundFault → Option FoundFault → Result (List (List ℕ)) FoundFault → Result (List (List ℕ)) FoundFault
judged (Err told) later foreign = Err told
judged (Ok u) (Some told) foreign = Err told
judged (Ok u) None foreign = foreign

-- the first row that is bad or out of order, or the number of the rows where `*filter` or `COMMIT` is missing; else the first fault of
-- a rule; else what is found
unfoldable pub found_of : List (List ℕ) → Result Found FoundFault
found_of texts =
    let rows = map row_of texts in
    found_with (tables_in rows) (judged (placed no_tables rows) (first_fault 0 (declared rows) rows) (Ok (foreign_rows texts)))
