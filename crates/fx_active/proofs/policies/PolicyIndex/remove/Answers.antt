use Rattle.std.proofs.Common.{IsSome, nat_eq, false, cond, ◌&&◌, subst, ap, sym, ◌∙◌}
use Rattle.std.specs.Cmp.Lexicographic.{pointwise}
use Rattle.std.specs.FinMap as map
use Rattle.fx_model.proofs.Orders.{policy_total, exact_policy}
use Rattle.fx_active.specs.Steps.{same_id}
use Rattle.fx_base.specs.Grouped.{has_key}
use Rattle.fx_base.proofs.Keyed.{remove_absent}
use Rattle.fx_active.specs.Indexes.{AreByText}
use Rattle.fx_active.proofs.IndexLemmas.{by_text_removed, text_there}
use Rattle.fx_active.proofs.policies.PolicyIndex.remove.Goals as goal

pub remove_id-requires : goal.remove_id-requires
remove_id-requires c =
    subst (λ t. IsSome (map.get c.self.inside.by_text t)) (sym c.text.ensures)
    (text_there c.self.inside.by_text c.self.inside.by_id c.self.invariant c.args.id.now c.in-Some.before (sym c.remove.ensures.before ∙ c.in-Some.is))

pub invariant_of-self : goal.invariant_of-self
invariant_of-self c =
    subst (λ m. AreByText c.remove_id.new.by_text m) (sym c.remove.ensures.removed)
    (by_text_removed c.self.inside.by_text c.self.inside.by_id c.self.invariant c.args.id.now c.in-Some.before c.remove_id.new.by_text (sym c.remove.ensures.before ∙ c.in-Some.is)
    (λ t q. c.remove_id.ensures t q ∙ ap (λ u. cond (pointwise nat_eq u t && same_id q c.args.id.now) false (has_key (map.get c.self.inside.by_text t) q)) c.text.ensures))

pub invariant_of-self-in_default : goal.invariant_of-self-in_default
invariant_of-self-in_default c =
    subst (λ m. AreByText c.self.inside.by_text m)
    (sym (c.remove.ensures.removed ∙ remove_absent policy_total exact_policy c.self.inside.by_id c.args.id.now (sym c.remove.ensures.before ∙ c.in_default.is)))
    c.self.invariant
