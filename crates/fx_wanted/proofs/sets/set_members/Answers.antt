use Rattle.std.proofs.Common.{map, sym, ap, ◌∙◌}
use Rattle.std.specs.FinMap as maps
use Rattle.fx_base.specs.Extended.{extended}
use Rattle.fx_base.specs.Set.{marked}
use Rattle.fx_model.specs.declared.resources.Item.TheVariants as item
use Rattle.fx_model.specs.Messages.{Members}
use Rattle.fx_model.specs.Sets.{contributions, selected_of}
use Rattle.fx_wanted.proofs.Members.{items_both}
use Rattle.fx_wanted.proofs.sets.set_members.Goals as goal

pub returns : goal.returns
returns c =
    let R = c.args.resources.now in
    let u = c.args.set.now in
    let endpoints = map (λ x. (x.0, item.Endpoint x.1)) (maps.entries R.endpoints) in
    let sets = map (λ x. (x.0, item.NetSet x.1)) (maps.entries R.net_sets) in
    c.in_ok-put_net_sets.ensures
    ∙ (ap (λ (m : Members). extended m (marked (contributions u (selected_of R u.selector sets)))) (c.in_ok-put_endpoints.ensures ∙ ap (λ (m : Members). extended m (marked (contributions u (selected_of R u.selector endpoints)))) c.new-members.ensures)
    ∙ sym (items_both R u maps.empty endpoints sets))
