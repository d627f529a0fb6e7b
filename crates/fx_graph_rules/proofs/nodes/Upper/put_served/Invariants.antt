use Rattle.fx_graph_rules.proofs.nodes.Upper.put_served.Given as goal

abbrev pub ghosts-put_item : goal.ghosts-put_item
ghosts-put_item g a = record { pairs_then = a.self.now.pairs }
