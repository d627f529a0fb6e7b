use Rattle.std.proofs.Common.{◌≡◌, ◌++◌, take}
use Rattle.std.specs.List.{flat_map}
use Rattle.fx_model.specs.Sets.{rule_uses, AreSelectors}
use Rattle.fx_model.proofs.set_use.push_uses.Given as goal

abbrev pub invariant-loop-rule : goal.invariant-loop-rule
invariant-loop-rule l = record {
  uses : l.uses.items ≡ l.fn.uses.items ++ flat_map rule_uses (take l.rule-index l.rule-items);
  selectors : AreSelectors l.fn.uses.items → AreSelectors l.uses.items;
}
