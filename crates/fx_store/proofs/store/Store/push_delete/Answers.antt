use Rattle.std.proofs.Common.{cond, [], ◌∷◌, ◌++◌, sym, ap, ◌∙◌}
use Rattle.std.proofs.lemmas.List.{append-nil}
use Rattle.fx_model.specs.SameIds.{copies_key}
use Rattle.fx_model.specs.declared.resources.Update.TheVariants.{Delete}
use Rattle.fx_store.proofs.Touching.{is_found}
use Rattle.fx_store.proofs.store.Store.push_delete.Goals as goal

pub returns-in_ok-push : goal.returns-in_ok-push
returns-in_ok-push c =
    let old = c.args.steps.now.items in
    let key = c.args.key.now in
    c.in_ok-push.ensures.items ∙ ap (λ k. old ++ Delete k ∷ []) (copies_key _ _ c.in_ok-key.ensures.cases)
    ∙ ap (λ b. old ++ cond b (Delete key ∷ []) []) (c.if-is_some.ensures ∙ is_found c.get.result _ c.get.ensures)

pub returns-else-is_some : goal.returns-else-is_some
returns-else-is_some c =
    let old = c.args.steps.now.items in
    let key = c.args.key.now in
    sym (append-nil old) ∙ ap (λ b. old ++ cond b (Delete key ∷ []) []) (c.if-is_some.ensures ∙ is_found c.get.result _ c.get.ensures)
