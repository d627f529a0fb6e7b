use Rattle.std.proofs.Common.{arith}
use Rattle.fx_selector.proofs.Rows.{made-And}
use Rattle.fx_selector.proofs.node.all_of.Goals as goal

pub returns : goal.returns
returns c = made-And c.args.parts c.requires (λ e. omega arith)
