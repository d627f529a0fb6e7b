use Rattle.std.proofs.Common.{List, ap, ◌∙◌}
use Rattle.fx_model.specs.declared.rules.Rule.{Rule}
use Rattle.fx_services.specs.Lowering.{written_rules, places_from}
use Rattle.fx_services.proofs.lowering.lower_rules.Goals as goal

pub returns-clause-places : goal.returns-clause-places
returns-clause-places c =
    c.in_ok-places.ensures ∙ ap (λ (rs : List Rule). places_from c.args.direction 1 (written_rules rs c.args.services.now)) c.as_slice.ensures
