use Rattle.std.proofs.Common.{unwrap_or, false, cond, ◌&&◌, ap, sym, ◌∙◌}
use Rattle.std.specs.Cmp.Lexicographic.{nat_list_cmp_total}
use Rattle.std.specs.FinMap as map
use Rattle.fx_base.proofs.KeyCases.{bytes_exact}
use Rattle.fx_base.proofs.Keyed.{key_removed, last_removed}
use Rattle.fx_model.proofs.Orders.{policy_total}
use Rattle.fx_base.specs.Grouped.{has_key}
use Rattle.fx_resolver.specs.Indexes.{is_in_tier, same_id}
use Rattle.fx_resolver.proofs.policies.remove_id.Goals as goal

pub returns-then-is_empty : goal.returns-then-is_empty
returns-then-is_empty c = λ t q.
    last_removed nat_list_cmp_total bytes_exact policy_total c.args.by_tier.now c.remove.new.self c.in-Some.before.tier c.args.id.now c.unwrap_or-ids.result
    (c.unwrap_or-ids.ensures ∙ (λ j. unwrap_or (c.remove.ensures.before j) (c.new.ensures j)))
    (ap map.entries (sym c.remove-2.ensures.removed) ∙ c.is_empty.ensures.0 c.if-is_empty.true)
    c.remove.ensures.removed t q
    ∙ ap (λ o. cond (is_in_tier t o && same_id q c.args.id.now) false (has_key (map.get c.args.by_tier.now t) q)) (sym c.in-Some.is)

pub returns : goal.returns
returns c = λ t q.
    key_removed nat_list_cmp_total bytes_exact policy_total c.args.by_tier.now c.insert.new.self c.in-Some.before.tier c.args.id.now c.unwrap_or-ids.result
    (c.unwrap_or-ids.ensures ∙ (λ j. unwrap_or (c.remove.ensures.before j) (c.new.ensures j)))
    (c.in_ok-insert.ensures.ok ∙ (λ j. map.insert (c.remove.ensures.removed j) (c.in_ok-clone.ensures.cases j) (c.remove-2.ensures.removed j))) t q
    ∙ ap (λ o. cond (is_in_tier t o && same_id q c.args.id.now) false (has_key (map.get c.args.by_tier.now t) q)) (sym c.in-Some.is)
