-- What rows that were read keep of their sets and shapes.
use Rattle.std.specs.Prelude.{◌≡◌, true}
use Rattle.fx_model.specs.Shapes.{has_shape, is_member_of}
use Rattle.fx_found.specs.declared.row.Row.{Row}
use Rattle.fx_found.specs.declared.row.Row.TheVariants as row

-- a member is one that its set takes, and a rule has the shape of rules
abbrev pub IsReadRow : Row → Type 0
IsReadRow row.Bad = Unit {0}
IsReadRow row.Filter = Unit {0}
IsReadRow row.Commit = Unit {0}
IsReadRow (row.Create name) = Unit {0}
IsReadRow (row.Add name m) = is_member_of name m ≡ true
IsReadRow (row.Header chain) = Unit {0}
IsReadRow (row.Rule chain r) = has_shape r ≡ true
IsReadRow row.ForeignSet = Unit {0}
IsReadRow row.ForeignHeader = Unit {0}
IsReadRow (row.ForeignRule uses) = Unit {0}
