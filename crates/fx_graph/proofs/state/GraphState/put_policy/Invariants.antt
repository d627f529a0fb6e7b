use Rattle.fx_graph.proofs.state.GraphState.put_policy.Given as goal

abbrev pub ghosts-put_policy : goal.ghosts-put_policy
ghosts-put_policy g a = record { told_then = a.self.now.told }
