-- Which rows may stand together: the rows of sets before `*filter`, headers before rules behind it, `COMMIT` last, and nothing own twice.
use Rattle.std.specs.Prelude.{ℕ, ◌+◌, List, [], ◌∷◌, Bool, true, false, ◌&&◌, not, if◌then◌else◌, length, Option, Some, None, Result, Ok, Err}
use Rattle.std.specs.List.{list_any}
use Rattle.std.specs.FinMap as maps
use Rattle.fx_base.specs.Set as set
use Rattle.fx_model.specs.declared.member.Member.{Member}
use Rattle.fx_model.specs.Tables.{Tables}
use Rattle.fx_model.specs.Messages.{members_of}
use Rattle.fx_found.specs.declared.row.Row.{Row}
use Rattle.fx_found.specs.declared.row.Row.TheVariants as row
use Rattle.fx_found.specs.declared.row.Part.{Part}
use Rattle.fx_found.specs.declared.row.Part.TheVariants as part
use Rattle.fx_found.specs.declared.found.FoundFault.{FoundFault}
use Rattle.fx_found.specs.declared.found.FoundFault.TheVariants.{BadRow}

-- ---- the parts of a list of rows

abbrev pub among_sets : Part → Bool
among_sets part.Sets = true
among_sets part.Headers = false
among_sets part.Rules = false
among_sets part.End = false

abbrev pub among_headers : Part → Bool
among_headers part.Sets = false
among_headers part.Headers = true
among_headers part.Rules = false
among_headers part.End = false

abbrev pub behind_filter : Part → Bool
behind_filter part.Sets = false
behind_filter part.Headers = true
behind_filter part.Rules = true
behind_filter part.End = false

abbrev pub before_end : Part → Bool
before_end part.Sets = true
before_end part.Headers = true
before_end part.Rules = true
before_end part.End = false

-- the row may stand in this part
abbrev pub may_stand : Part → Row → Bool
may_stand p row.Bad = false
may_stand p row.Filter = among_sets p
may_stand p row.Commit = before_end p
may_stand p (row.Create name) = among_sets p
may_stand p (row.Add name m) = among_sets p
may_stand p (row.Header chain) = among_headers p
may_stand p (row.Rule chain r) = behind_filter p
may_stand p row.ForeignSet = among_sets p
may_stand p row.ForeignHeader = among_headers p
may_stand p (row.ForeignRule uses) = behind_filter p

-- the part that the row leads to
abbrev pub part_after : Part → Row → Part
part_after p row.Bad = p
part_after p row.Filter = part.Headers
part_after p row.Commit = part.End
part_after p (row.Create name) = p
part_after p (row.Add name m) = p
part_after p (row.Header chain) = p
part_after p (row.Rule chain r) = part.Rules
part_after p row.ForeignSet = p
part_after p row.ForeignHeader = p
part_after p (row.ForeignRule uses) = part.Rules

-- ---- what own rows declare: sets with their members, and chains, here without rules

abbrev pub with_member : Tables → List ℕ → Member → Tables
with_member t name m = record t { sets = maps.insert t.sets name (set.insert (members_of (maps.get t.sets name)) m) }

-- what is declared once the row is
abbrev pub declared_after : Tables → Row → Tables
declared_after t row.Bad = t
declared_after t row.Filter = t
declared_after t row.Commit = t
declared_after t (row.Create name) = record t { sets = maps.insert t.sets name set.empty }
declared_after t (row.Add name m) = with_member t name m
declared_after t (row.Header chain) = record t { chains = maps.insert t.chains chain [] }
declared_after t (row.Rule chain r) = t
declared_after t row.ForeignSet = t
declared_after t row.ForeignHeader = t
declared_after t (row.ForeignRule uses) = t

abbrev pub declared_by : Tables → List Row → Tables
declared_by t [] = t
declared_by t (r ∷ rs) = declared_by (declared_after t r) rs

abbrev pub is_new_member : Tables → List ℕ → Member → Bool
is_new_member t name m = maps.contains_key t.sets name && not (set.contains (members_of (maps.get t.sets name)) m)

-- the row repeats nothing that is declared, and adds to a set that is
abbrev pub is_new : Tables → Row → Bool
is_new t row.Bad = true
is_new t row.Filter = true
is_new t row.Commit = true
is_new t (row.Create name) = not (maps.contains_key t.sets name)
is_new t (row.Add name m) = is_new_member t name m
is_new t (row.Header chain) = not (maps.contains_key t.chains chain)
is_new t (row.Rule chain r) = true
is_new t row.ForeignSet = true
is_new t row.ForeignHeader = true
is_new t (row.ForeignRule uses) = true

-- ---- the first row that may not stand where it does, counted on from n

abbrev pub first_bad : ℕ → Part → Tables → List Row → Option ℕ
first_bad n p t [] = None
first_bad n p t (r ∷ rs) = if may_stand p r && is_new t r then first_bad (n + 1) (part_after p r) (declared_after t r) rs else Some n

-- ---- the end

abbrev pub is_filter : Row → Bool
is_filter row.Bad = false
is_filter row.Filter = true
is_filter row.Commit = false
is_filter (row.Create name) = false
is_filter (row.Add name m) = false
is_filter (row.Header chain) = false
is_filter (row.Rule chain r) = false
is_filter row.ForeignSet = false
is_filter row.ForeignHeader = false
is_filter (row.ForeignRule uses) = false

abbrev pub is_commit : Row → Bool
is_commit row.Bad = false
is_commit row.Filter = false
is_commit row.Commit = true
is_commit (row.Create name) = false
is_commit (row.Add name m) = false
is_commit (row.Header chain) = false
is_commit (row.Rule chain r) = false
is_commit row.ForeignSet = false
is_commit row.ForeignHeader = false
is_commit (row.ForeignRule uses) = false

-- there is `*filter`, and there is `COMMIT`, unless there are no rows
abbrev pub is_whole : List Row → Bool
is_whole [] = true
is_whole (r ∷ rs) = list_any is_filter (r ∷ rs) && list_any is_commit (r ∷ rs)

-- ---- both together

-- the rows stand as they may, or the first one that doesn't; at the number of the rows, where the end lacks something
abbrev pub placed_by : Option ℕ → Bool → ℕ → Result (Unit {0}) FoundFault
placed_by (Some n) whole count = Err (BadRow n)
placed_by None false count = Err (BadRow count)
placed_by None true count = Ok tt

abbrev pub placed : Tables → List Row → Result (Unit {0}) FoundFault
placed t rows = placed_by (first_bad 0 part.Sets t rows) (is_whole rows) (length rows)
