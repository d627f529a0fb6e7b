use Rattle.std.proofs.Common.{◌≡◌, ◌++◌, codes, take}
use Rattle.fx_model.specs.MessageTexts.{behind}
use Rattle.fx_print.proofs.messages.push_later_keys.Given as goal

abbrev pub invariant-loop-key : goal.invariant-loop-key
invariant-loop-key l = l.line.items ≡ l.fn.line.items ++ behind (codes ",") (take l.key-index l.keys)
