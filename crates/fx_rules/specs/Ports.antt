-- What the code's choices of ports stand for.
use Rattle.fx_model.specs.Rendering.{PortChoice, Listed, InSet}
use Rattle.fx_rules.specs.declared.ports.Choice.{Choice}
use Rattle.fx_rules.specs.declared.ports.Choice.TheVariants.{Ranges, Set}

abbrev pub choice_of : Choice → PortChoice
choice_of (Ranges list) = Listed list
choice_of (Set name) = InSet name
