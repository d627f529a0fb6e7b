use Rattle.std.proofs.Common.{sym, ap, ◌∙◌}
use Rattle.std.specs.Option.{option_copied}
use Rattle.fx_label_index.proofs.Keeping.{selector_kept}
use Rattle.fx_label_index.proofs.Needing.{lowered_more}
use Rattle.fx_label_index.proofs.state.leave.Goals as goal

pub returns-in_ok-go-clause-kept : goal.returns-in_ok-go-clause-kept
returns-in_ok-go-clause-kept g c = c.in_ok-go.ensures.kept c.args.selectors.now (sym c.last.ensures ∙ ap option_copied c.in-Some.is) c.requires.kept

pub returns-in_default-clause-kept : goal.returns-in_default-clause-kept
returns-in_default-clause-kept g c =
    let more = sym c.last.ensures ∙ ap option_copied c.in_default.is in
    record {
      by_label = c.requires.kept.by_label;
      by_need = lowered_more c.args.selectors.now c.args.indexes.now.by_need c.args.text.now c.requires.kept.by_need more;
      texts = selector_kept c.args.selectors.now c.args.indexes.now.labels c.args.indexes.now.texts c.args.text.now c.requires.kept.texts more;
    }
