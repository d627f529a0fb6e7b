use Rattle.std.proofs.Common.{◌∙◌}
use Rattle.fx_services.proofs.PlaceLemmas.{kept_flushed, now_flushed}
use Rattle.fx_services.proofs.places.Places.flushed.Goals as goal

pub returns-in-Some : goal.returns-in-Some
returns-in-Some c =
    let was = c.args.self.now in
    c.as_ref.ensures.value ∙ kept_flushed was.lists was.before c.args.key.now c.in-Some.lists.now c.in-Some.ensures

pub returns-in-None : goal.returns-in-None
returns-in-None c =
    let was = c.args.self.now in
    c.current.ensures ∙ now_flushed was.lists was.before c.args.key.now c.in-None.ensures
