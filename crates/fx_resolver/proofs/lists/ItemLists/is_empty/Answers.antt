use Rattle.fx_resolver.proofs.ListLemmas.{are_empty}
use Rattle.fx_resolver.proofs.lists.ItemLists.is_empty.Goals as goal

pub returns-then-is_empty : goal.returns-then-is_empty
returns-then-is_empty c = λ other. are_empty c.args.self.now (c.is_empty.ensures.0 c.if-is_empty.true) (c.is_empty-then-is_empty.ensures.0 other)
