use Rattle.std.proofs.Common.{map, sym, ap, ◌∙◌}
use Rattle.std.specs.List.{slice_get}
use Rattle.fx_sequencer.proofs.names.first_name.Goals as goal

pub returns-in-Some : goal.returns-in-Some
returns-in-Some g c = sym (ap (λ es. slice_get (map (λ e. e.0) es) 0) c.in-Some.ensures.steps) ∙ ap (λ es. slice_get (map (λ e. e.0) es) 0) c.iter.ensures

pub returns-in-None : goal.returns-in-None
returns-in-None g c = sym (ap (λ es. slice_get (map (λ e. e.0) es) 0) c.in-None.ensures.steps.0) ∙ ap (λ es. slice_get (map (λ e. e.0) es) 0) c.iter.ensures
