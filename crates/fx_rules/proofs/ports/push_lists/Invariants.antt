use Rattle.std.proofs.Common.{◌≡◌, ◌++◌, map}
use Rattle.fx_model.specs.Rendering.{Listed}
use Rattle.fx_rules.specs.Ports.{choice_of}
use Rattle.fx_rules.proofs.ports.push_lists.Given as goal

-- with the lists that are left behind them, the choices are whole
abbrev pub invariant-loop-list : goal.invariant-loop-list
invariant-loop-list l = map choice_of l.choices ++ map Listed l.list-iterator.rest.items ≡ map choice_of l.initial.choices ++ map Listed l.initial.list-iterator.rest.items
