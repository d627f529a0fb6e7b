use Rattle.std.proofs.Common.{◌≡◌, drop}
use Rattle.std.specs.List.{AllByRecursion}
use Rattle.fx_found.specs.declared.row.Part.TheVariants.{Sets}
use Rattle.fx_found.specs.Order.{declared_by, first_bad}
use Rattle.fx_found.specs.ReadRows.{IsReadRow}
use Rattle.fx_found.proofs.order.first_bad.Given as goal

abbrev pub invariant-loop-number : goal.invariant-loop-number
invariant-loop-number l = record {
  first : first_bad l.number l.part l.tables (drop l.number l.rows) ≡ first_bad 0 Sets l.fn.tables l.rows;
  declared : declared_by l.tables (drop l.number l.rows) ≡ declared_by l.fn.tables l.rows;
  read : AllByRecursion IsReadRow (drop l.number l.rows);
}
