use Rattle.fx_names.proofs.PlainText.{filled}
use Rattle.fx_names.proofs.digest.PlainRuleDigestFunction.digest.Goals as goal

pub returns : goal.returns
returns c = filled c.args.text.now _ _ c.min-size.ensures c.copy_from_slice.ensures.after
