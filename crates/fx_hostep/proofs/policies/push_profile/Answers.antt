use Rattle.std.proofs.Common.{◌≡◌, List, [], ◌∷◌, ◌++◌, ap, ◌∙◌, append_assoc}
use Rattle.std.proofs.lemmas.Result.{on_ok_weaker}
use Rattle.fx_model.specs.declared.chain.ChainRule.{ChainRule}
use Rattle.fx_model.specs.Tables.{ChainName}
use Rattle.fx_hostep.specs.HostTables.{Written}
use Rattle.fx_hostep.proofs.policies.push_profile.Goals as goal

-- two chains, one behind the other, by what their names and rules are
both_pushed : (old one both : List Written) (m n : ChainName) (rs ss : List ChainRule) (first second : Written) → one ≡ old ++ (m, rs) ∷ [] → both ≡ one ++ (n, ss) ∷ [] → m ≡ first.0 → rs ≡ first.1 → n ≡ second.0 → ss ≡ second.1 → both ≡ old ++ first ∷ second ∷ []
both_pushed old one both m n rs ss first second o b m_is rs_are n_is ss_are =
    b ∙ ap (λ ws. ws ++ (n, ss) ∷ []) o ∙ append_assoc old ((m, rs) ∷ []) ((n, ss) ∷ [])
    ∙ (λ i. old ++ (m_is i, rs_are i) ∷ (n_is i, ss_are i) ∷ [])

pub returns : goal.returns
returns c =
    on_ok_weaker c.push-2.result
    (λ e. both_pushed c.args.chains.now c.push.new.self c.push-2.new.self _ _ _ _ _ _ c.in_ok-push.ensures.ok e c.profile_chain_name.ensures c.in_ok-ingress.ensures c.profile_chain_name-2.ensures c.in_ok-egress.ensures)
    c.push-2.ensures.ok
