-- Chains are alike if they are equal but for tags, which the kernel doesn't hold.
use Rattle.std.specs.Prelude.{Bool, false, ◌&&◌, List, Option, Some, None}
use Rattle.std.specs.Cmp.Lexicographic.{pointwise}
use Rattle.fx_model.specs.declared.chain.Match.{Match}
use Rattle.fx_model.specs.declared.chain.Target.{Target}
use Rattle.fx_model.specs.declared.chain.ChainRule.{ChainRule}
use Rattle.fx_model.specs.contracts.chain.MatchPartialEq.TheImpl as match_eq
use Rattle.fx_model.specs.contracts.chain.TargetPartialEq.TheImpl as target_eq

-- what the kernel holds of a rule
abbrev pub held_of : ChainRule → List Match × Target
held_of r = (r.matches, r.target)

abbrev pub is_alike_rule : ChainRule → ChainRule → Bool
is_alike_rule r s = pointwise match_eq.eq-value.it r.matches s.matches && target_eq.eq-value.it r.target s.target

abbrev pub are_alike : List ChainRule → List ChainRule → Bool
are_alike rs ss = pointwise is_alike_rule rs ss

-- both are there and alike
abbrev pub is_alike : Option (List ChainRule) → Option (List ChainRule) → Bool
is_alike None other = false
is_alike (Some rs) None = false
is_alike (Some rs) (Some ss) = are_alike rs ss
