use Rattle.std.proofs.Common.{◌≡◌, ◌++◌, take}
use Rattle.std.specs.List.{flat_map}
use Rattle.fx_model.specs.Sets.{port_uses, AreSelectors}
use Rattle.fx_model.proofs.set_use.push_ports.Given as goal

abbrev pub invariant-loop-port : goal.invariant-loop-port
invariant-loop-port l = record {
  uses : l.uses.items ≡ l.fn.uses.items ++ flat_map (port_uses l.protocol l.side.selector) (take l.port-index l.port-items);
  selectors : AreSelectors l.fn.uses.items → AreSelectors l.uses.items;
}
