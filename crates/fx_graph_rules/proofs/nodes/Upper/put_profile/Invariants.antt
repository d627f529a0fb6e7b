use Rattle.fx_graph_rules.proofs.nodes.Upper.put_profile.Given as goal

abbrev pub ghosts-put_parent : goal.ghosts-put_parent
ghosts-put_parent g a = record { pairs_then = a.self.now.pairs }
