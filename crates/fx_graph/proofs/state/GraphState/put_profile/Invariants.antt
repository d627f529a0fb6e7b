use Rattle.fx_graph.proofs.state.GraphState.put_profile.Given as goal

abbrev pub ghosts-put_profile : goal.ghosts-put_profile
ghosts-put_profile g a = record { told_then = a.self.now.told }
