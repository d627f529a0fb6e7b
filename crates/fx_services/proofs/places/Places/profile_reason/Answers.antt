use Rattle.std.proofs.Common.{ℕ, List, Option, ap, ◌∙◌}
use Rattle.std.specs.FinMap as maps
use Rattle.fx_model.specs.declared.chain.Reason.TheVariants as reason
use Rattle.fx_model.specs.declared.ids.Key.TheVariants as key
use Rattle.fx_services.specs.declared.places.PlaceLists.{PlaceLists}
use Rattle.fx_services.specs.Places.{place_by, flushed_places}
use Rattle.fx_services.proofs.places.Places.profile_reason.Goals as goal

pub returns : goal.returns
returns c =
    let was = c.args.self.now in
    let lists = c.flushed.ensures ∙ ap (λ (name : List ℕ). maps.get (flushed_places was.lists was.before) (key.Profile name)) c.in_ok-clone.ensures.cases in
    let place = c.place_by-place.ensures ∙ ap (λ (o : Option PlaceLists). place_by o c.args.direction c.args.place) lists in
    λ i. reason.Profile (c.in_ok-name.ensures.cases i) (place i)
