use Rattle.std.proofs.Common.{◌≡◌, ◌++◌, map}
use Rattle.fx_model.specs.TableTexts.{header_line, header_lines}
use Rattle.fx_rows.proofs.tables.push_headers.Given as goal

abbrev pub invariant-loop-name : goal.invariant-loop-name
invariant-loop-name l = l.lines.items ++ map (λ e. header_line e.0) l.name-iterator ≡ l.fn.lines.items ++ header_lines l.chains
