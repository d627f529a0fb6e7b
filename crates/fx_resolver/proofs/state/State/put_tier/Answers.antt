use Rattle.std.proofs.Common.{ap, sym, ◌∙◌, subst}
use Rattle.std.specs.FinMap as map
use Rattle.fx_resolver.specs.Kept.{IsKept}
use Rattle.fx_resolver.specs.Placed.{TierStands, stands_of, with_stand}
use Rattle.fx_resolver.proofs.Resolving.{order_put}
use Rattle.fx_resolver.proofs.state.State.put_tier.Goals as goal

pub returns-clause-kept : goal.returns-clause-kept
returns-clause-kept g c =
    let n = c.args.self.now.inputs in
    subst (λ (o : TierStands). IsKept o n.policies n.pairs n.endpoints c.change_order.new.rows)
    (ap (with_stand (stands_of n.tiers) c.args.name.now) c.of_tier-after.ensures ∙ order_put n.tiers c.args.name.now c.args.tier
    ∙ ap stands_of (sym (c.in_ok-insert.ensures.ok ∙ ap (λ k. map.insert n.tiers k c.args.tier) c.in_ok-clone.ensures.cases)))
    c.in_ok-change_order.ensures.kept
