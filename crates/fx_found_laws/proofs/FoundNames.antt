-- The tables that rows are read as have own sets and chains alone.
use Rattle.std.proofs.Common.{◌≡◌, inl, inr, ℕ, true, ◌&&◌, List, [], ◌∷◌, ◌++◌, map, length, drop, nat_eq, Option, Some, None, Result, Ok, Err, refl, ap, subst}
use Rattle.std.specs.List.{AllByRecursion, list_all, starts_with}
use Rattle.std.specs.FinMap as maps
use Rattle.std.proofs.lemmas.Bool.{and_parts, or_cases}
use Rattle.fx_base.specs.Set as set
use Rattle.fx_base.specs.SetName.{head_of}
use Rattle.fx_base.specs.declared.set_name.SetKind.TheVariants.{Nets, Ports}
use Rattle.fx_model.specs.declared.chain.ChainRule.{ChainRule}
use Rattle.fx_model.specs.Messages.{Members, members_of}
use Rattle.fx_model.specs.Tables.{ChainName, Tables}
use Rattle.fx_found.specs.declared.row.Row.{Row}
use Rattle.fx_found.specs.declared.row.Row.TheVariants as row
use Rattle.fx_found.specs.declared.found.Found.{Found}
use Rattle.fx_found.specs.declared.found.FoundFault.{FoundFault}
use Rattle.fx_found.specs.NameForms.{is_own_set, has_kind, is_set_name, is_own_chain, is_tail_byte}
use Rattle.fx_found.specs.OwnRows.{says_own, IsOwnRow}
use Rattle.fx_found.specs.Order.{declared_after, declared_by, placed}
use Rattle.fx_found.specs.RuleFaults.{first_fault}
use Rattle.fx_found.specs.Rows.{row_of}
use Rattle.fx_found.specs.Found.{header_of, headers_of, rules_at, writes_of, no_tables, declared, tables_in, foreign_rows, found_with, judged, found_of}
use Rattle.fx_found.proofs.WholeRows.{own_row_printed}
use Rattle.fx_found_laws.specs.OwnNames.{AreOwn}
use Rattle.fx_found_laws.proofs.Maps.{pass-empty, pass-insert, pass-extended}
use Rattle.fx_found_laws.proofs.Begins.{begins_with}

-- a set's name of Felix's form is own
own_set : (name : List ℕ) → is_set_name name ≡ true → is_own_set name ≡ true
own_set name is =
    elim (or_cases (starts_with nat_eq name (head_of Nets)) (starts_with nat_eq name (head_of Ports)) (and_parts (has_kind name) (nat_eq (length name) 31 && list_all is_tail_byte (drop 8 name)) is).0) [
      | inl nets ↦ ap is_own_set (begins_with (head_of Nets) name nets)
      | inr ports ↦ ap is_own_set (begins_with (head_of Ports) name ports)
    ]

-- ---- single rows

-- the set or the chain that the row declares is own
abbrev DeclaresOwn : Row → Type 0
DeclaresOwn row.Bad = Unit {0}
DeclaresOwn row.Filter = Unit {0}
DeclaresOwn row.Commit = Unit {0}
DeclaresOwn (row.Create name) = is_own_set name ≡ true
DeclaresOwn (row.Add name m) = is_own_set name ≡ true
DeclaresOwn (row.Header chain) = is_own_chain chain ≡ true
DeclaresOwn (row.Rule chain r) = Unit {0}
DeclaresOwn row.ForeignSet = Unit {0}
DeclaresOwn row.ForeignHeader = Unit {0}
DeclaresOwn (row.ForeignRule uses) = Unit {0}

of_own_row : (r : Row) → (says_own r ≡ true → IsOwnRow r) → DeclaresOwn r
of_own_row row.Bad is = tt
of_own_row row.Filter is = tt
of_own_row row.Commit is = tt
of_own_row (row.Create name) is = own_set name (is refl)
of_own_row (row.Add name m) is = own_set name (is refl).0
of_own_row (row.Header chain) is = (is refl).0
of_own_row (row.Rule chain r) is = tt
of_own_row row.ForeignSet is = tt
of_own_row row.ForeignHeader is = tt
of_own_row (row.ForeignRule uses) is = tt

declares_own : (text : List ℕ) → DeclaresOwn (row_of text)
declares_own text = of_own_row (row_of text) (λ own. (own_row_printed text (row_of text) refl own).0)

all_declare_own : (texts : List (List ℕ)) → AllByRecursion DeclaresOwn (map row_of texts)
all_declare_own [] = tt
all_declare_own (text ∷ texts) = (declares_own text, all_declare_own texts)

-- ---- what they declare together

after_row : (t : Tables) (r : Row) → DeclaresOwn r → AreOwn t → AreOwn (declared_after t r)
after_row t row.Bad here own = own
after_row t row.Filter here own = own
after_row t row.Commit here own = own
after_row t (row.Create name) here own = record { sets = pass-insert is_own_set t.sets name set.empty here own.sets; chains = own.chains }
after_row t (row.Add name m) here own = record {
  sets = pass-insert is_own_set t.sets name (set.insert (members_of (maps.get t.sets name)) m) here own.sets;
  chains = own.chains;
}
after_row t (row.Header chain) here own = record { sets = own.sets; chains = pass-insert is_own_chain t.chains chain [] here own.chains }
after_row t (row.Rule chain r) here own = own
after_row t row.ForeignSet here own = own
after_row t row.ForeignHeader here own = own
after_row t (row.ForeignRule uses) here own = own

after_rows : (t : Tables) (rows : List Row) → AllByRecursion DeclaresOwn rows → AreOwn t → AreOwn (declared_by t rows)
after_rows t [] all own = own
after_rows t (r ∷ rows) all own = after_rows (declared_after t r) rows all.1 (after_row t r all.0 own)

nothing_own : AreOwn no_tables
nothing_own = record { sets = pass-empty Members is_own_set; chains = pass-empty (List ChainRule) is_own_chain }

-- ---- their chains with rules

abbrev IsOwnName : ChainName → Type 0
IsOwnName name = is_own_chain name ≡ true

header_own : (r : Row) (names : List ChainName) → DeclaresOwn r → AllByRecursion IsOwnName names → AllByRecursion IsOwnName (header_of r ++ names)
header_own row.Bad names here later = later
header_own row.Filter names here later = later
header_own row.Commit names here later = later
header_own (row.Create name) names here later = later
header_own (row.Add name m) names here later = later
header_own (row.Header chain) names here later = (here, later)
header_own (row.Rule chain r) names here later = later
header_own row.ForeignSet names here later = later
header_own row.ForeignHeader names here later = later
header_own (row.ForeignRule uses) names here later = later

headers_own : (rows : List Row) → AllByRecursion DeclaresOwn rows → AllByRecursion IsOwnName (headers_of rows)
headers_own [] all = tt
headers_own (r ∷ rows) all = header_own r (headers_of rows) all.0 (headers_own rows all.1)

abbrev HasOwnName : ChainName × List ChainRule → Type 0
HasOwnName e = IsOwnName e.0

abbrev with_rules : (ChainName → List ChainRule) → List ChainName → List (ChainName × List ChainRule)
with_rules rules names = map (λ name. (name, rules name)) names

written_own : (rules : ChainName → List ChainRule) (names : List ChainName) → AllByRecursion IsOwnName names → AllByRecursion HasOwnName (with_rules rules names)
written_own rules [] all = tt
written_own rules (name ∷ names) all = (all.0, written_own rules names all.1)

tables_own : (rows : List Row) → AllByRecursion DeclaresOwn rows → AreOwn (tables_in rows)
tables_own rows all =
    let own : AreOwn (declared rows) = after_rows no_tables rows all nothing_own in
    record {
      sets = own.sets;
      chains = pass-extended is_own_chain (declared rows).chains (writes_of rows) own.chains
          (written_own (λ name. rules_at name rows) (headers_of rows) (headers_own rows all));
    }

-- ---- the tables that are found

abbrev with_rows : Tables → List (List ℕ) → Found
with_rows t foreign = record { tables = t; foreign = foreign }

same_found : (f g : Found) → ◌≡◌ {A = Result Found FoundFault} (Ok f) (Ok g) → f ≡ g
same_found f g e = cc

-- what is found came from rows without a fault
pub record CameFrom (t : Tables) (stands : Result (Unit {0}) FoundFault) (later : Option FoundFault) (foreign : List (List ℕ)) (found : Found) : Type 0 where
  pub unit : Unit {0}
  pub stood : stands ≡ Ok unit
  pub none : later ≡ None
  pub tables : t ≡ found.tables
  pub rows : foreign ≡ found.foreign

came_from : (t : Tables) (stands : Result (Unit {0}) FoundFault) (later : Option FoundFault) (foreign : List (List ℕ)) (found : Found) → found_with t (judged stands later (Ok foreign)) ≡ Ok found → CameFrom t stands later foreign found
came_from t (Err told) later foreign found e = cc
came_from t (Ok u) (Some told) foreign found e = cc
came_from t (Ok u) None foreign found e =
    let same : with_rows t foreign ≡ found = same_found (with_rows t foreign) found e in
    record { unit = u; stood = refl; none = refl; tables = ap (λ (f : Found). f.tables) same; rows = ap (λ (f : Found). f.foreign) same }

pub found_from : (texts : List (List ℕ)) (found : Found) → found_of texts ≡ Ok found
    → CameFrom (tables_in (map row_of texts)) (placed no_tables (map row_of texts)) (first_fault 0 (declared (map row_of texts)) (map row_of texts)) (foreign_rows texts) found
unfolding found_of
found_from texts found e =
    let rows = map row_of texts in
    came_from (tables_in rows) (placed no_tables rows) (first_fault 0 (declared rows) rows) (foreign_rows texts) found e

pub found_own : (texts : List (List ℕ)) (found : Found) → found_of texts ≡ Ok found → AreOwn found.tables
found_own texts found e = subst AreOwn (found_from texts found e).tables (tables_own (map row_of texts) (all_declare_own texts))
