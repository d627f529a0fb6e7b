use Rattle.std.proofs.Common.{[], ◌∷◌, ◌++◌, ap, ◌∙◌}
use Rattle.fx_model.specs.SameIds.{copies_key}
use Rattle.fx_model.specs.Steps.{put_of}
use Rattle.fx_model.specs.declared.resources.Update.TheVariants.{Put}
use Rattle.fx_store.proofs.stepping.push_put.Goals as goal

pub returns : goal.returns
returns c =
    let old = c.args.steps.now.items in
    c.in_ok-push.ensures.items
    ∙ (λ i. old ++ Put (copies_key _ _ c.in_ok-key.ensures.cases i) (c.in_ok-item.ensures.cases i) ∷ [])
    ∙ ap (λ o. old ++ put_of c.args.key.now o) c.in-Some.ensures
