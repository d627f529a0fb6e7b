use Rattle.std.proofs.Common.{refl, ap, sym, ◌∙◌, subst}
use Rattle.fx_base.specs.Set as set
use Rattle.fx_model.specs.SameIds.{copies_item}
use Rattle.fx_model.specs.Pairs.{PolicyPairs}
use Rattle.fx_resolver.specs.Lists.{AreLists}
use Rattle.fx_resolver.specs.Placed.{stands_of}
use Rattle.fx_resolver.proofs.Retelling.{one_more_touched}
use Rattle.fx_resolver.proofs.state.State.move_pair.Goals as goal

pub returns-clause-kept : goal.returns-clause-kept
returns-clause-kept c =
    let n = c.args.self.now.inputs in
    one_more_touched c.args.touched.now _ c.args.change.now.item _ _ c.requires.kept
    (c.in_ok-insert.ensures.ok ∙ ap (set.insert c.args.touched.now) (copies_item _ _ c.in_ok-clone.ensures.cases))
    (subst (λ (p : PolicyPairs). AreLists (stands_of n.tiers) n.policies p c.move_pair.new.lists) (sym c.in_ok-change.ensures) c.in_ok-move_pair.ensures.lists)
    refl c.in_ok-move_pair.ensures.others
