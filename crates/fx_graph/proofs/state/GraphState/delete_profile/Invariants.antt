use Rattle.fx_graph.proofs.state.GraphState.delete_profile.Given as goal

abbrev pub ghosts-remove_profile : goal.ghosts-remove_profile
ghosts-remove_profile g a = record { told_then = a.self.now.told }
