use Rattle.std.proofs.Common.{◌≡◌, ◌++◌, take}
use Rattle.std.specs.List.{flat_map}
use Rattle.fx_model.specs.Views.{uses_of_profile}
use Rattle.fx_wanted.proofs.view.push_profile_uses.Given as goal

abbrev pub invariant-loop-name : goal.invariant-loop-name
invariant-loop-name l = l.uses.items ≡ l.fn.uses.items ++ flat_map (uses_of_profile l.resources) (take l.name-index l.name-items)
