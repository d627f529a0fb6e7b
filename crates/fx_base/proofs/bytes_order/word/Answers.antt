use Rattle.std.proofs.Common.{◌∙◌}
use Rattle.fx_base.proofs.WordLemmas.{eight_bytes}
use Rattle.fx_base.proofs.bytes_order.word.Goals as goal

pub returns : goal.returns
returns c = c.from_be_bytes.ensures ∙ eight_bytes c.args.bytes.now c.args.at c.requires
