use Rattle.fx_graph.proofs.nodes.Nodes.put_local.Given as goal

abbrev pub ghosts-put_endpoint : goal.ghosts-put_endpoint
ghosts-put_endpoint g a = record { stood = a.sequencer.now }
