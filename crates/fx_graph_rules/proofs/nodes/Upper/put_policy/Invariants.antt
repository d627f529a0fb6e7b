use Rattle.fx_graph_rules.proofs.nodes.Upper.put_policy.Given as goal

abbrev pub ghosts-put_selector : goal.ghosts-put_selector
ghosts-put_selector g a = record { pairs_then = a.self.now.pairs }
