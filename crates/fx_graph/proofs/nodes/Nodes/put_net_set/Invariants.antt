use Rattle.fx_graph.proofs.nodes.Nodes.put_net_set.Given as goal

abbrev pub ghosts-label_other : goal.ghosts-label_other
ghosts-label_other g a = record { told_then = a.self.now.told }
