use Rattle.std.proofs.Common.{subst}
use Rattle.fx_model.specs.declared.resources.Update.{Update}
use Rattle.fx_graph.specs.Graphs.{CanFollow}
use Rattle.fx_graph.proofs.state.GraphState.apply.Goals as goal

pub put-requires-clause-resources : goal.put-requires-clause-resources
put-requires-clause-resources g c = subst (λ (u : Update). CanFollow g.R.DigestRule.digest_of u c.args.self.now) c.in-Put.is c.requires.resources

pub delete-requires : goal.delete-requires
delete-requires g c = subst (λ (u : Update). CanFollow g.R.DigestRule.digest_of u c.args.self.now) c.in-Delete.is c.requires.resources

pub begin-requires : goal.begin-requires
begin-requires g c = subst (λ (u : Update). CanFollow g.R.DigestRule.digest_of u c.args.self.now) c.in-InSync.is c.requires.resources
