use Rattle.fx_graph.proofs.nodes.Nodes.remove_local.Given as goal

abbrev pub ghosts-remove_endpoint : goal.ghosts-remove_endpoint
ghosts-remove_endpoint g a = record { stood = a.sequencer.now }
