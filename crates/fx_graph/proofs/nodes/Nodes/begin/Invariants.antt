use Rattle.fx_graph.proofs.nodes.Nodes.begin.Given as goal

abbrev pub ghosts-serve_all : goal.ghosts-serve_all
ghosts-serve_all g a = record { told_then = a.self.now.told }
