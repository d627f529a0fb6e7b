use Rattle.fx_graph.proofs.nodes.Nodes.remove_endpoint.Given as goal

abbrev pub ghosts-unlabel : goal.ghosts-unlabel
ghosts-unlabel g a = record { told_then = a.self.now.told }
