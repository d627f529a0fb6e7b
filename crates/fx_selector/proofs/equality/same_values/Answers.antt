use Rattle.fx_selector.proofs.SameTree.{same_lists}
use Rattle.fx_selector.proofs.equality.same_values.Goals as goal

pub returns : goal.returns
returns c = same_lists c.args.a.now c.args.b.now c.eq.result c.eq.ensures
