use Rattle.std.proofs.Common.{◌≡◌, map}
use Rattle.std.specs.FinMap as maps
use Rattle.fx_base.specs.Extended.{extended}
use Rattle.fx_base.specs.Set.{marked}
use Rattle.fx_model.specs.declared.resources.Item.TheVariants as item
use Rattle.fx_model.specs.Sets.{contributions, selected_of}
use Rattle.fx_wanted.proofs.sets.put_net_sets.Given as goal

-- with those that are left put in, all of them are
abbrev pub invariant-loop-key : goal.invariant-loop-key
invariant-loop-key l =
    extended l.members (marked (contributions l.set (selected_of l.resources l.set.selector (map (λ x. (x.0, item.NetSet x.1)) l.key-iterator))))
    ≡ extended l.fn.members (marked (contributions l.set (selected_of l.resources l.set.selector (map (λ x. (x.0, item.NetSet x.1)) (maps.entries l.resources.net_sets)))))
