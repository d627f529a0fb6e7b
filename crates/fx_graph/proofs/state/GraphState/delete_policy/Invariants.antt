use Rattle.fx_graph.proofs.state.GraphState.delete_policy.Given as goal

abbrev pub ghosts-remove_policy : goal.ghosts-remove_policy
ghosts-remove_policy g a = record { told_then = a.self.now.told }
