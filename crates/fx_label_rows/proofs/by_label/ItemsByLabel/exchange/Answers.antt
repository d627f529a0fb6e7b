use Rattle.std.proofs.Common.{true, cond, ◌&&◌, not, Some, ap, ◌∙◌}
use Rattle.std.specs.FinMap as map
use Rattle.fx_model.specs.declared.ids.ItemKey.{ItemKey}
use Rattle.fx_label_rows.specs.Labelled.{same_item, has_both, has_label}
use Rattle.fx_label_rows.proofs.Exchanging.{one_item, exchanged}
use Rattle.fx_label_rows.proofs.by_label.ItemsByLabel.exchange.Goals as goal

pub returns : goal.returns
returns c = λ k p.
    let m = c.args.self.now.by_key in
    let item = c.args.item.now in
    let a = has_label (Some c.args.after.now) k p.0 in
    let b = has_label (Some c.args.before.now) k p.0 in
    let s = same_item p.1 item in
    c.in_ok-change_others-2.ensures k p
    ∙ ap (cond ((a && not b) && s) true) (c.in_ok-change_others.ensures k p)
    ∙ exchanged a b s (has_both (map.get m k) p) (λ e. ap (λ (i : ItemKey). has_both (map.get m k) (p.0, i)) (one_item p.1 item e) ∙ c.requires k p.0)
