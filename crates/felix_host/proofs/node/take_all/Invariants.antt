use Rattle.std.proofs.Common.{◌≡◌, false}
use Rattle.fx_model.specs.Messages.{differences}
use Rattle.fx_model.specs.Views.{view_of}
use Rattle.felix_host.proofs.node.take_all.Given as goal

abbrev pub invariant-loop-alloc : goal.invariant-loop-alloc
invariant-loop-alloc g l = record {
  told : l.view ≡ l.engine.sent;
  ready : l.engine.failed ≡ false;
  resources : l.engine.resources ≡ l.fn.engine.resources;
}

abbrev pub decreases-loop-alloc : goal.decreases-loop-alloc
decreases-loop-alloc g l = differences l.engine.sent (view_of g.R.DigestRule.digest_of l.engine.resources)
