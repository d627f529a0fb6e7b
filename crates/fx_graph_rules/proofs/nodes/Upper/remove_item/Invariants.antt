use Rattle.fx_graph_rules.proofs.nodes.Upper.remove_item.Given as goal

abbrev pub ghosts-remove_item : goal.ghosts-remove_item
ghosts-remove_item g a = record { pairs_then = a.self.now.pairs }
