use Rattle.std.proofs.Common.{◌≡◌, ◌++◌, take}
use Rattle.fx_model.specs.TableTexts.{matches_text}
use Rattle.fx_rows.proofs.rows.push_matches.Given as goal

abbrev pub invariant-loop-each : goal.invariant-loop-each
invariant-loop-each l = l.line.items ≡ l.fn.line.items ++ matches_text (take l.each-index l.matches)
