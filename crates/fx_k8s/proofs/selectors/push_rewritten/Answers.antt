use Rattle.fx_k8s.proofs.LowTrees.{low_item}
use Rattle.fx_k8s.proofs.selectors.push_rewritten.Goals as goal

pub push_asked-requires-clause-low : goal.push_asked-requires-clause-low
push_asked-requires-clause-low c =
    low_item c.args.asked.now c.loop-part.part-index c.part-item.result c.loop-part-test.true c.part-item.is c.requires.asked
