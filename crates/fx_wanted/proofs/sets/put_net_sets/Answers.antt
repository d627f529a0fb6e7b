use Rattle.std.proofs.Common.{◌≡◌, map, subst}
use Rattle.std.specs.FinMap as maps
use Rattle.fx_base.specs.Extended.{extended}
use Rattle.fx_base.specs.Set.{marked}
use Rattle.fx_model.specs.declared.resources.Item.TheVariants as item
use Rattle.fx_model.specs.Sets.{contributions, selected_of}
use Rattle.fx_wanted.proofs.Members.{one_more_item}
use Rattle.fx_wanted.proofs.sets.put_net_sets.Goals as goal

pub loop-key-preserved : goal.loop-key-preserved
loop-key-preserved c =
    let R = c.args.resources.now in
    let u = c.args.set.now in
    one_more_item R u c.loop-key.members c.put_net_set.new.members _ (c.in-Some.key.now, item.NetSet c.in-Some.net_set.now) (map (λ x. (x.0, item.NetSet x.1)) c.next.new.self) (rw c.deref.ensures at c.in_ok-put_net_set.ensures)
    (subst (λ es. extended c.loop-key.members (marked (contributions u (selected_of R u.selector (map (λ x. (x.0, item.NetSet x.1)) es)))) ≡ extended c.args.members.now (marked (contributions u (selected_of R u.selector (map (λ x. (x.0, item.NetSet x.1)) (maps.entries R.net_sets))))))
    c.in-Some.ensures.steps c.loop-key.invariant)
