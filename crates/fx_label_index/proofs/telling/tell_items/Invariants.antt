use Rattle.std.proofs.Common.{cond, ◌&&◌}
use Rattle.std.specs.FinMap as map
use Rattle.fx_base.specs.Grouped.{has_key}
use Rattle.fx_base.specs.Set as set
use Rattle.fx_label_index.specs.Indexed.{AreTold}
use Rattle.fx_label_index.specs.Matched.{text_eq}
use Rattle.fx_label_index.proofs.Told.{SetLeft}
use Rattle.fx_label_index.proofs.telling.tell_items.Given as goal

abbrev pub invariant-loop-key : goal.invariant-loop-key
invariant-loop-key g l = record {
  told : AreTold (g.S.MatchSink.pairs l.sink) l.rows;
  left : SetLeft l.key-iterator l.text l.stands l.rows (λ i t. cond (set.contains l.items i && text_eq t l.text) l.stands (has_key (map.get l.fn.rows i) t));
}
