use Rattle.std.proofs.Common.{ap, sym, ◌∙◌}
use Rattle.fx_base.specs.Set as set
use Rattle.fx_base.specs.Grouped.{has_key}
use Rattle.fx_active.proofs.RowLemmas.{in_pairs}
use Rattle.fx_active.proofs.matches.Matches.texts.Goals as goal

pub returns : goal.returns
returns c = λ text.
    ap (λ o. has_key o text) c.get.ensures ∙ sym (in_pairs c.self.inside.by_item text c.args.item.now)
    ∙ ap (λ s. set.contains s (text, c.args.item.now)) c.self.view_is
