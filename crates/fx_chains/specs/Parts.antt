-- The parts of an endpoint's chain.
use Rattle.std.specs.Prelude.{ℕ, List, [], ◌∷◌, ◌++◌, true, false}
use Rattle.fx_model.specs.Directions.{Direction}
use Rattle.fx_model.specs.declared.view.ViewTier.{ViewTier}
use Rattle.fx_model.specs.declared.chain.Match.TheVariants as match
use Rattle.fx_model.specs.declared.chain.Target.TheVariants as target
use Rattle.fx_model.specs.declared.chain.Reason.TheVariants as reason
use Rattle.fx_model.specs.declared.chain.ChainRule.{ChainRule}
use Rattle.fx_model.specs.Rendering.{plain, tagged, clear_mark, is_set, is_clear, accept_mark, pass_mark}
use Rattle.fx_model.specs.Tables.{policy_chain, policy_jumps, tier_end, profile_chain}

abbrev pub policy_jump : Direction → List ℕ → List ChainRule
policy_jump d key = plain (is_clear pass_mark ∷ []) (target.Jump (policy_chain d key)) ∷ plain (is_set accept_mark ∷ []) target.Return ∷ []

abbrev pub one_tier : Direction → ViewTier → List ChainRule
one_tier d t = plain [] (clear_mark pass_mark) ∷ (policy_jumps d t.policies ++ tier_end t)

abbrev pub profile_jump : Direction → List ℕ → List ChainRule
profile_jump d key = plain [] (target.Jump (profile_chain d key)) ∷ plain (is_set accept_mark ∷ []) target.Return ∷ []

abbrev pub state_rules : List ChainRule
state_rules =
    tagged (match.State true ∷ []) target.Accept reason.Established
    ∷ tagged (match.State false ∷ []) target.Drop reason.Invalid
    ∷ []
