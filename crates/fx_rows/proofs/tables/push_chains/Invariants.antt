use Rattle.std.proofs.Common.{◌≡◌, ◌++◌}
use Rattle.std.specs.List.{flat_map}
use Rattle.std.specs.FinMap as maps
use Rattle.fx_model.specs.TableTexts.{chain_lines}
use Rattle.fx_rows.proofs.tables.push_chains.Given as goal

abbrev pub invariant-loop-name : goal.invariant-loop-name
invariant-loop-name l = l.lines.items ++ flat_map chain_lines l.name-iterator ≡ l.fn.lines.items ++ flat_map chain_lines (maps.entries l.chains)
