use Rattle.std.proofs.Common.{◌≡◌, None, nat_eq, true, cond, ◌&&◌, subst, ap, sym, ◌∙◌}
use Rattle.std.specs.Cmp.Lexicographic.{pointwise}
use Rattle.std.specs.FinMap as map
use Rattle.fx_model.specs.SameIds.{copies_policy_id}
use Rattle.fx_model.proofs.Orders.{policy_total, exact_policy}
use Rattle.fx_active.specs.Steps.{same_id}
use Rattle.fx_base.specs.Grouped.{has_key}
use Rattle.fx_base.proofs.AtKey.{insert_removed}
use Rattle.fx_base.proofs.Keyed.{get_removed}
use Rattle.fx_active.specs.Indexes.{AreByText, has_text}
use Rattle.fx_active.proofs.IndexLemmas.{by_text_added}
use Rattle.fx_active.proofs.policies.PolicyIndex.put.Goals as goal

pub invariant_of-self-2 : goal.invariant_of-self-2
invariant_of-self-2 c =
    let by_id = c.replace-by_id.result in
    let by_text = c.replace-by_text.result in
    let are : AreByText by_text by_id = λ t q. ap (λ n. has_key (map.get n t) q) c.replace-by_text.ensures.value ∙ c.self.invariant t q ∙ ap (λ n. has_text t (map.get n q)) (sym c.replace-by_id.ensures.value) in
    let none : map.get by_id c.args.id.now ≡ None = ap (λ n. map.get n c.args.id.now) (c.replace-by_id.ensures.value ∙ c.self.view_is ∙ c.remove.ensures) ∙ get_removed policy_total c.args.self.now c.args.id.now in
    subst (λ n. AreByText c.add_id.new.by_text n)
    (sym (c.in_ok-insert.ensures.ok ∙ ap (λ k. map.insert by_id k c.args.indexed) (copies_policy_id _ _ c.in_ok-own_id.ensures.cases)))
    (by_text_added by_text by_id are c.args.id.now c.args.indexed c.add_id.new.by_text none
    (λ t q. c.in_ok-add_id.ensures t q ∙ ap (λ u. cond (pointwise nat_eq u t && same_id q c.args.id.now) true (has_key (map.get by_text t) q)) c.text.ensures))

pub returns : goal.returns
returns c =
    c.in_ok-insert.ensures.ok
    ∙ (λ j. map.insert ((c.replace-by_id.ensures.value ∙ c.self.view_is ∙ c.remove.ensures) j) (copies_policy_id _ _ c.in_ok-own_id.ensures.cases j) c.args.indexed)
    ∙ insert_removed policy_total exact_policy c.args.self.now c.args.id.now c.args.indexed
