use Rattle.std.proofs.Common.{Some, ap, ◌∙◌}
use Rattle.std.specs.FinMap as map
use Rattle.fx_label_rows.specs.Labelled.{has_both, has_label}
use Rattle.fx_label_rows.proofs.Exchanging.{one_item}
use Rattle.fx_model.specs.declared.ids.ItemKey.{ItemKey}
use Rattle.fx_label_index.specs.Matched.{item_eq}
use Rattle.fx_label_index.proofs.Staying.{entered}
use Rattle.fx_label_index.proofs.indexes.put_under.Goals as goal

pub exchange-requires : goal.exchange-requires
exchange-requires c = λ k v. c.requires k v ∙ ap (λ o. has_label o k v) c.in-Some.is

pub returns : goal.returns
returns c = λ k p.
    let m = c.args.by_label.now.by_key in
    let key = c.args.key.now in
    c.in_ok-change.ensures k p
    ∙ entered (has_label (Some c.args.after.now) k p.0) (item_eq p.1 key) (has_both (map.get m k) p)
    (λ e. ap (λ (i : ItemKey). has_both (map.get m k) (p.0, i)) (one_item p.1 key e) ∙ c.requires k p.0 ∙ ap (λ o. has_label o k p.0) c.in_default.is)
