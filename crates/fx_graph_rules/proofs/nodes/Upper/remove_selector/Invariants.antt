use Rattle.fx_graph_rules.proofs.nodes.Upper.remove_selector.Given as goal

abbrev pub ghosts-remove_selector : goal.ghosts-remove_selector
ghosts-remove_selector g a = record { pairs_then = a.self.now.pairs }
