use Rattle.std.proofs.Common.{arith}
use Rattle.fx_selector.proofs.Rows.{made-Or}
use Rattle.fx_selector.proofs.node.some_of.Goals as goal

pub returns : goal.returns
returns c = made-Or c.args.parts c.requires (λ e. omega arith)
