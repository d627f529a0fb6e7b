use Rattle.std.proofs.Common.{ap, ◌∙◌}
use Rattle.fx_base.specs.Set as set
use Rattle.fx_active.specs.declared.inputs.Inputs.{Inputs}
use Rattle.fx_active.proofs.active.ActiveRules.matched.Goals as goal

pub returns-clause-inputs : goal.returns-clause-inputs
returns-clause-inputs g c =
    c.in_ok-insert_match.ensures
    ∙ ap (λ (k : Inputs). record { policies = k.policies; profiles = k.profiles; endpoints = k.endpoints; matched = set.insert k.matched (c.args.selector.now, c.args.item.now) }) c.self.view_is
