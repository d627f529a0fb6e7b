-- The index, the pairs that it told, the active rules and what these told agree.
use Rattle.std.specs.Prelude.{◌≡◌}
use Rattle.fx_model.specs.Pairs.{PolicyPairs}
use Rattle.fx_model.specs.Sinks.{Policies, Profiles}
use Rattle.fx_label_index.specs.Matched.{IsMatched}
use Rattle.fx_active.specs.Node.{IsActive}
use Rattle.fx_graph_rules.specs.declared.join.Joined.{Joined}

pub record IsJoined (j : Joined) (policies : Policies) (profiles : Profiles) (told : PolicyPairs) : Type 0 where
  pub matched : IsMatched j.index j.pairs
  pub same : j.active.matched ≡ j.pairs
  pub active : IsActive j.active policies profiles told
