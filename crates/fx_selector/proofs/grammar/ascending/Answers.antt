use Rattle.fx_selector.proofs.Sets.{deduped_set}
use Rattle.fx_selector.proofs.grammar.ascending.Goals as goal

pub returns : goal.returns
returns c = deduped_set _ _ _ c.sort_unstable.ensures.permutation c.sort_unstable.ensures.sorted c.dedup.ensures.filtered
