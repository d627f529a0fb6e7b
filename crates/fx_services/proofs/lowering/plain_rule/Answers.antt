use Rattle.fx_fields.proofs.Readings.{first_of, second_of}
use Rattle.fx_services.specs.Lowerable.{is_lowerable_side}
use Rattle.fx_services.proofs.lowering.plain_rule.Goals as goal

pub plain_side-requires : goal.plain_side-requires
plain_side-requires c =
    first_of (is_lowerable_side c.args.rule.source) (is_lowerable_side c.args.rule.destination) c.requires

pub plain_side-requires-2 : goal.plain_side-requires-2
plain_side-requires-2 c =
    second_of (is_lowerable_side c.args.rule.source) (is_lowerable_side c.args.rule.destination) c.requires
