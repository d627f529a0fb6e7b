use Rattle.fx_base.specs.Set as set
use Rattle.fx_dispatch.specs.Laid.{IsTreeOf}
use Rattle.fx_dispatch.proofs.LaidLemmas.{plan_whole}
use Rattle.fx_dispatch.proofs.laid.Laid.lay.Goals as goal

pub returns-clause-laid : goal.returns-clause-laid
returns-clause-laid c = record {
  shared_is = c.in_ok-tree.ensures.shared;
  root_is = c.in_ok-tree.ensures.root;
  branches_are = c.in_ok-tree.ensures.branches;
}

pub returns-clause-planned : goal.returns-clause-planned
returns-clause-planned c =
    let made : IsTreeOf c.in_ok-tree.tree (set.items c.args.names) = record {
      shared_is = c.in_ok-tree.ensures.shared;
      root_is = c.in_ok-tree.ensures.root;
      branches_are = c.in_ok-tree.ensures.branches;
    } in
    plan_whole c.args.self.now.tree c.in_ok-tree.tree (set.items c.args.self.now.names) (set.items c.args.names) c.in_ok-plan.plan c.requires made
    c.in_ok-plan.ensures.writes c.in_ok-plan.ensures.deletes
