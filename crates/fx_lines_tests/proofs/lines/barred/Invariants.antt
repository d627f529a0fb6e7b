use Rattle.std.proofs.Common.{◌≡◌}
use Rattle.fx_lines_tests.proofs.lines.barred.Given as goal

abbrev pub invariant-loop : goal.invariant-loop
invariant-loop l = record {
  given : l.source.at ≡ l.reader.taken;
  ended : l.source.ended ≡ l.reader.ended;
}
