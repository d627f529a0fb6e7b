use Rattle.std.proofs.Common.{ℕ, List, Option, sym, ap, ◌∙◌}
use Rattle.std.specs.Option.{option_copied}
use Rattle.fx_services.specs.declared.places.PlaceLists.{PlaceLists}
use Rattle.fx_services.specs.Places.{written_place, place_by}
use Rattle.fx_services.proofs.places.place_by.Goals as goal

pub returns-in-Some : goal.returns-in-Some
returns-in-Some c =
    c.written_place.ensures
    ∙ (ap (λ (ps : List ℕ). written_place ps c.args.place) (c.as_slice.ensures ∙ c.list_for.ensures)
    ∙ ap (λ (o : Option PlaceLists). place_by o c.args.direction c.args.place) (sym (ap option_copied c.in-Some.is)))

pub returns-in-None : goal.returns-in-None
returns-in-None c = ap (λ (o : Option PlaceLists). place_by o c.args.direction c.args.place) (sym (ap option_copied c.in-None.is))
