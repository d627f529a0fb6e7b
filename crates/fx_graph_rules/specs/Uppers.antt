-- The upper nodes are in step: they agree, and the index counts the selectors of the policies and those that are used besides.
use Rattle.std.specs.Prelude.{◌≡◌, ℕ, List, Some}
use Rattle.std.specs.FinMap as map
use Rattle.fx_selector.specs.Tree.{IsSelector}
use Rattle.fx_model.specs.Pairs.{PolicyPairs}
use Rattle.fx_model.specs.Sinks.{Policies, Profiles}
use Rattle.fx_model.specs.declared.ids.PolicyId.{PolicyId}
use Rattle.fx_model.specs.declared.policy.Policy.{Policy}
use Rattle.fx_graph_rules.specs.Counting.{total, IsCounted}
use Rattle.fx_graph_rules.specs.Joining.{IsJoined}
use Rattle.fx_graph_rules.specs.declared.join.Joined.{Joined}

pub record AreInStep (j : Joined) (used : List ℕ → ℕ) (policies : Policies) (profiles : Profiles) (pairs : PolicyPairs) : Type 0 where
  pub joined : IsJoined j policies profiles pairs
  pub counted : IsCounted j.index.selectors (total j.active.policies used)
  pub selectors : (id : PolicyId) (p : Policy) → map.get j.active.policies id ≡ Some p → IsSelector p.selector

-- the same, whatever is used besides
abbrev pub AreInStepForSome : Joined → Policies → Profiles → PolicyPairs → Type 0
AreInStepForSome j policies profiles pairs = (used : List ℕ → ℕ) × AreInStep j used policies profiles pairs
