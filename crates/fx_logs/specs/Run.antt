-- Changes of pairs of a selector's text and an item, in their order.
use Rattle.std.specs.Prelude.{ℕ, List}
use Rattle.fx_model.specs.PairRuns.{IsRunOf}
use Rattle.fx_model.specs.Pairs.{Pairs}
use Rattle.fx_model.specs.declared.ids.ItemKey.{ItemKey}
use Rattle.fx_logs.specs.declared.pair_log.PairChange.{PairChange}

abbrev pub changed_pair : PairChange → List ℕ × ItemKey
changed_pair c = (c.selector, c.item)

abbrev pub IsRun : List PairChange → Pairs → Pairs → Type 0
IsRun changes first last = IsRunOf changed_pair (λ c. c.on) changes first last
