use Rattle.std.proofs.Common.{sym, arith}
use Rattle.std.proofs.lemmas.List.{take_all, length-take-le}
use Rattle.fx_gen.proofs.parts.cut.Goals as goal

pub returns-then-node-le-ROOM : goal.returns-then-node-le-ROOM
returns-then-node-le-ROOM c = sym (take_all 247 c.args.node.now (omega arith))

pub slice_bounds-result-end : goal.slice_bounds-result-end
slice_bounds-result-end c = sym (length-take-le 247 c.args.node.now (omega arith))
