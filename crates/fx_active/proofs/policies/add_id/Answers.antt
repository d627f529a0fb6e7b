use Rattle.std.proofs.Common.{unwrap_or, ◌∙◌}
use Rattle.std.specs.FinMap as map
use Rattle.fx_base.specs.Set as set
use Rattle.fx_model.specs.SameIds.{copies_policy_id}
use Rattle.fx_model.proofs.Orders.{policy_total}
use Rattle.fx_active.proofs.KeysByText.{key_added}
use Rattle.fx_active.proofs.policies.add_id.Goals as goal

pub returns : goal.returns
returns c =
    key_added policy_total c.args.by_text.now c.insert-2.new.self c.args.text.now c.args.id.now c.unwrap_or-ids.result
    (c.unwrap_or-ids.ensures ∙ (λ j. unwrap_or (c.remove.ensures.before j) (c.new.ensures j)))
    (c.in_ok-insert-2.ensures.ok
    ∙ (λ j. map.insert (c.remove.ensures.removed j) (c.in_ok-clone-2.ensures.cases j) (c.in_ok-insert.ensures.ok j))
    ∙ (λ j. map.insert (map.remove c.args.by_text.now c.args.text.now) c.args.text.now (set.insert c.unwrap_or-ids.result (copies_policy_id _ _ c.in_ok-clone.ensures.cases j))))
