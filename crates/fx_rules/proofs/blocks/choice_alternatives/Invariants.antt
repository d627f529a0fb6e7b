use Rattle.std.proofs.Common.{◌≡◌, ◌++◌, map, drop}
use Rattle.fx_model.specs.Rendering.{choice_alternative}
use Rattle.fx_rules.specs.Ports.{choice_of}
use Rattle.fx_rules.proofs.blocks.choice_alternatives.Given as goal

-- with the choices that are left behind them, the alternatives are whole
abbrev pub invariant-loop-choice : goal.invariant-loop-choice
invariant-loop-choice l = l.alternatives ++ map (choice_alternative l.end l.protocol) (map choice_of (drop l.choice-index l.choice-items)) ≡ map (choice_alternative l.end l.protocol) (map choice_of l.choices)
