use Rattle.std.proofs.Common.{ℕ, Bool, List, cond, ◌&&◌, sym, ap, ◌∙◌, subst}
use Rattle.std.proofs.Common as common
use Rattle.std.specs.List.{list_any}
use Rattle.std.specs.FinMap as map
use Rattle.std.specs.FinMap.{contains_key-keys}
use Rattle.fx_base.specs.Grouped.{has_key}
use Rattle.fx_base.specs.Set as set
use Rattle.fx_model.specs.declared.ids.ItemKey.{ItemKey}
use Rattle.fx_label_index.specs.Matched.{item_eq, text_eq}
use Rattle.fx_label_index.proofs.Told.{SetLeft, set_one_more}
use Rattle.fx_label_index.proofs.telling.tell_items.Goals as goal

pub loop-key-init : goal.loop-key-init
loop-key-init g c =
    let e = c.into_iter-key-iterator.ensures.into_iter_gives ∙ c.iter-key-items.ensures in
    record {
      told = c.requires;
      left = λ i t.
          ap (λ es. cond (list_any (item_eq i) (common.map (λ e. e.0) es) && text_eq t c.args.text.now) c.args.stands (has_key (map.get c.args.rows.now i) t)) e
          ∙ ap (λ b. cond (b && text_eq t c.args.text.now) c.args.stands (has_key (map.get c.args.rows.now i) t)) (sym (contains_key-keys c.args.items.now i));
    }

pub loop-key-preserved : goal.loop-key-preserved
loop-key-preserved g c =
    let whole : ItemKey → List ℕ → Bool = λ i t. cond (set.contains c.args.items.now i && text_eq t c.args.text.now) c.args.stands (has_key (map.get c.args.rows.now i) t) in
    let left = subst (λ es. SetLeft es c.args.text.now c.args.stands c.loop-key.rows whole) c.in-Some.ensures.steps c.loop-key.invariant.left in
    record {
      told = c.in_ok-tell_one.ensures.told;
      left = set_one_more c.loop-key.rows c.tell_one.new.rows _ _ c.args.text.now c.args.stands whole left c.in_ok-tell_one.ensures.rows;
    }
