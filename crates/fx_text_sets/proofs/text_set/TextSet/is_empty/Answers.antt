use Rattle.std.proofs.Common.{◌==◌, ap}
use Rattle.fx_text_sets.proofs.Places.{empty_where}
use Rattle.fx_text_sets.proofs.text_set.TextSet.is_empty.Goals as goal

pub returns : goal.returns
returns c = empty_where c.args.self.now _ (ap (λ n. n == 0) c.len.ensures)
