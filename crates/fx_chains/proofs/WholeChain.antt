-- The parts of an endpoint's chain, joined.
use Rattle.std.proofs.Common.{◌≡◌, ℕ, List, [], ◌∷◌, ◌++◌, refl, ◌∙◌, ap, append_assoc}
use Rattle.std.specs.List.{flat_map}
use Rattle.fx_model.specs.declared.view.ViewTier.{ViewTier}
use Rattle.fx_model.specs.declared.view.ViewEndpoint.{ViewEndpoint}
use Rattle.fx_model.specs.declared.chain.Target.TheVariants as target
use Rattle.fx_model.specs.declared.chain.Reason.TheVariants as reason
use Rattle.fx_model.specs.declared.chain.ChainRule.{ChainRule}
use Rattle.fx_model.specs.Directions.{Direction}
use Rattle.fx_model.specs.Rendering.{plain, clear_mark, accept_mark, pass_mark, tagged}
use Rattle.fx_model.specs.Tables.{tier_end, tier_rules, profile_jumps, endpoint_rules_with, tiers_side, policy_jumps}
use Rattle.fx_chains.specs.Parts.{one_tier, profile_jump, state_rules}

-- the tiers one after another, and then what follows them
tiers-flat : (d : Direction) (ts : List ViewTier) (rest : List ChainRule) → flat_map (one_tier d) ts ++ rest ≡ tier_rules d ts rest
tiers-flat d [] rest = refl
tiers-flat d (t ∷ ts) rest =
    ap (λ l. plain [] (clear_mark pass_mark) ∷ l)
    (append_assoc (policy_jumps d t.policies ++ tier_end t) (flat_map (one_tier d) ts) rest
    ∙ append_assoc (policy_jumps d t.policies) (tier_end t) (flat_map (one_tier d) ts ++ rest)
    ∙ ap (λ l. policy_jumps d t.policies ++ (tier_end t ++ l)) (tiers-flat d ts rest))

profiles-flat : (d : Direction) (keys : List (List ℕ)) → flat_map (profile_jump d) keys ++ tagged [] target.Drop reason.NoProfileRule ∷ [] ≡ profile_jumps d keys
profiles-flat d [] = refl
profiles-flat d (key ∷ keys) =
    append_assoc (profile_jump d key) (flat_map (profile_jump d) keys) (tagged [] target.Drop reason.NoProfileRule ∷ [])
    ∙ ap (λ l. profile_jump d key ++ l) (profiles-flat d keys)

-- the states, the rules behind them, the tiers, the profiles and the end are the chain
pub whole_chain : (third : List ChainRule) (d : Direction) (e : ViewEndpoint) → ((((state_rules ++ third) ++ plain [] (clear_mark accept_mark) ∷ []) ++ flat_map (one_tier d) (tiers_side d e)) ++ flat_map (profile_jump d) e.profiles) ++ tagged [] target.Drop reason.NoProfileRule ∷ [] ≡ endpoint_rules_with third d e
whole_chain third d e =
    let begun = (state_rules ++ third) ++ plain [] (clear_mark accept_mark) ∷ [] in
    append_assoc (begun ++ flat_map (one_tier d) (tiers_side d e)) (flat_map (profile_jump d) e.profiles) (tagged [] target.Drop reason.NoProfileRule ∷ [])
    ∙ append_assoc begun (flat_map (one_tier d) (tiers_side d e)) _
    ∙ append_assoc (state_rules ++ third) (plain [] (clear_mark accept_mark) ∷ []) _
    ∙ ap (λ l. state_rules ++ (third ++ plain [] (clear_mark accept_mark) ∷ l)) (tiers-flat d (tiers_side d e) _ ∙ ap (tier_rules d (tiers_side d e)) (profiles-flat d e.profiles))
