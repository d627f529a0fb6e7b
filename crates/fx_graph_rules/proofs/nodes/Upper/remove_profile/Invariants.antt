use Rattle.fx_graph_rules.proofs.nodes.Upper.remove_profile.Given as goal

abbrev pub ghosts-remove_parent : goal.ghosts-remove_parent
ghosts-remove_parent g a = record { pairs_then = a.self.now.pairs }
