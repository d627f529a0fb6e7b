-- What a reader of lines holds.
use Rattle.std.specs.Prelude.{ℕ, List, drop, slice_range}
use Rattle.fx_lines.specs.declared.lines.LineReader.{LineReader}

-- what was taken and not given as a line yet
abbrev pub rest_of : LineReader → List ℕ
rest_of r = drop r.start r.held.items

-- what is kept of the line that was given last
abbrev pub line_of : LineReader → List ℕ
line_of r = slice_range r.held.items r.line r.end
