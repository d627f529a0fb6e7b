use Rattle.std.proofs.Common.{ap, sym, ◌∙◌}
use Rattle.fx_base.specs.Set as set
use Rattle.fx_base.specs.Grouped.{has_key}
use Rattle.fx_resolver.proofs.PairLemmas.{in_pairs}
use Rattle.fx_resolver.proofs.pairs.PairIndex.items.Goals as goal

pub returns : goal.returns
returns c = λ item.
    ap (λ o. has_key o item) c.get.ensures ∙ sym (in_pairs c.self.inside.by_policy c.args.id.now item)
    ∙ ap (λ s. set.contains s (c.args.id.now, item)) c.self.view_is
