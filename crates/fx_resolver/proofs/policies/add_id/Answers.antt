use Rattle.std.proofs.Common.{unwrap_or, ◌∙◌}
use Rattle.std.specs.Cmp.Lexicographic.{nat_list_cmp_total}
use Rattle.std.specs.FinMap as map
use Rattle.fx_base.specs.Set as set
use Rattle.fx_base.proofs.KeyCases.{bytes_exact}
use Rattle.fx_base.proofs.Keyed.{key_added}
use Rattle.fx_model.specs.SameIds.{copies_policy_id}
use Rattle.fx_model.proofs.Orders.{policy_total}
use Rattle.fx_resolver.proofs.policies.add_id.Goals as goal

pub returns : goal.returns
returns c =
    key_added nat_list_cmp_total bytes_exact policy_total c.args.by_tier.now c.insert-2.new.self c.args.tier.now c.args.id.now c.unwrap_or-ids.result
    (c.unwrap_or-ids.ensures ∙ (λ j. unwrap_or (c.remove.ensures.before j) (c.new.ensures j)))
    (c.in_ok-insert-2.ensures.ok
    ∙ (λ j. map.insert (c.remove.ensures.removed j) (c.in_ok-clone-2.ensures.cases j) (c.in_ok-insert.ensures.ok j))
    ∙ (λ j. map.insert (map.remove c.args.by_tier.now c.args.tier.now) c.args.tier.now (set.insert c.unwrap_or-ids.result (copies_policy_id _ _ c.in_ok-clone.ensures.cases j))))
