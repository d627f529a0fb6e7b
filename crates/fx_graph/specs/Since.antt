-- The upper nodes are one step behind the used sets: they are in step with those that were used before the noted ones changed.
use Rattle.std.specs.Prelude.{ℕ, List, Option}
use Rattle.fx_model.specs.Pairs.{PolicyPairs}
use Rattle.fx_model.specs.Sinks.{Policies, Profiles, Uses}
use Rattle.fx_graph_rules.specs.Counting.{with_some}
use Rattle.fx_graph_rules.specs.Uppers.{AreInStep}
use Rattle.fx_graph_rules.specs.declared.join.Joined.{Joined}
use Rattle.fx_graph_view.specs.Noted.{Before, AreNoted}
use Rattle.fx_graph.specs.Used.{used_in}

-- the index counts the selectors of the policies and of those sets, and besides them the text that a policy had before, if any
pub record AreBehindBy (notes : Before) (uses : Uses) (before : Option (List ℕ)) (j : Joined) (policies : Policies) (profiles : Profiles) (pairs : PolicyPairs) : Type 0 where
  pub was : Uses
  pub noted : AreNoted notes was uses
  pub upper : AreInStep j (with_some before (used_in was)) policies profiles pairs
