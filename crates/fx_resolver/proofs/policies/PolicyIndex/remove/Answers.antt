use Rattle.std.proofs.Common.{false, cond, ◌&&◌, subst, ap, sym, ◌∙◌}
use Rattle.std.specs.FinMap as map
use Rattle.fx_base.specs.Grouped.{has_key}
use Rattle.fx_resolver.specs.Indexes.{AreByTier, is_in_tier, same_id}
use Rattle.fx_resolver.proofs.TierIndex.{by_tier_removed}
use Rattle.fx_resolver.proofs.policies.PolicyIndex.remove.Goals as goal

pub invariant_of-self-2 : goal.invariant_of-self-2
invariant_of-self-2 c =
    let by_id = c.replace-by_id.result in
    let by_tier = c.replace-by_tier.result in
    let are : AreByTier by_tier by_id = λ t q. ap (λ n. has_key (map.get n t) q) c.replace-by_tier.ensures.value ∙ c.self.invariant t q ∙ ap (λ n. is_in_tier t (map.get n q)) (sym c.replace-by_id.ensures.value) in
    subst (λ n. AreByTier c.remove_id.new.by_tier n) (sym c.remove.ensures.removed)
    (by_tier_removed by_tier by_id are c.args.id.now c.remove_id.new.by_tier
    (λ t q. c.in_ok-remove_id.ensures t q ∙ ap (λ o. cond (is_in_tier t o && same_id q c.args.id.now) false (has_key (map.get by_tier t) q)) c.remove.ensures.before))
