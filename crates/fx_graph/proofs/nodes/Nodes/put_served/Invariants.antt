use Rattle.fx_graph.proofs.nodes.Nodes.put_served.Given as goal

abbrev pub ghosts-label_served : goal.ghosts-label_served
ghosts-label_served g a = record { told_then = a.self.now.told }
