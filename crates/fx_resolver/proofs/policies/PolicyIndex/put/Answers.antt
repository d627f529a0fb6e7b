use Rattle.std.proofs.Common.{◌≡◌, None, subst, ap, sym, ◌∙◌}
use Rattle.std.specs.FinMap as map
use Rattle.fx_model.specs.SameIds.{copies_policy_id}
use Rattle.fx_model.proofs.Orders.{policy_total, exact_policy}
use Rattle.fx_base.specs.Grouped.{has_key}
use Rattle.fx_base.proofs.AtKey.{insert_removed}
use Rattle.fx_base.proofs.Keyed.{get_removed}
use Rattle.fx_resolver.specs.Indexes.{AreByTier, is_in_tier}
use Rattle.fx_resolver.proofs.TierIndex.{by_tier_added}
use Rattle.fx_resolver.proofs.policies.PolicyIndex.put.Goals as goal

pub invariant_of-self-2 : goal.invariant_of-self-2
invariant_of-self-2 c =
    let by_id = c.replace-by_id.result in
    let by_tier = c.replace-by_tier.result in
    let are : AreByTier by_tier by_id = λ t q. ap (λ n. has_key (map.get n t) q) c.replace-by_tier.ensures.value ∙ c.self.invariant t q ∙ ap (λ n. is_in_tier t (map.get n q)) (sym c.replace-by_id.ensures.value) in
    let none : map.get by_id c.args.id.now ≡ None = ap (λ n. map.get n c.args.id.now) (c.replace-by_id.ensures.value ∙ c.self.view_is ∙ c.in_ok-remove.ensures) ∙ get_removed policy_total c.args.self.now c.args.id.now in
    subst (λ n. AreByTier c.add_id.new.by_tier n)
    (sym (c.in_ok-insert.ensures.ok ∙ ap (λ k. map.insert by_id k c.args.policy) (copies_policy_id _ _ c.in_ok-own_id.ensures.cases)))
    (by_tier_added by_tier by_id are c.args.id.now c.add_id.new.by_tier c.args.policy none c.in_ok-add_id.ensures)

pub returns : goal.returns
returns c =
    c.in_ok-insert.ensures.ok
    ∙ (λ j. map.insert ((c.replace-by_id.ensures.value ∙ c.self.view_is ∙ c.in_ok-remove.ensures) j) (copies_policy_id _ _ c.in_ok-own_id.ensures.cases j) c.args.policy)
    ∙ insert_removed policy_total exact_policy c.args.self.now c.args.id.now c.args.policy
