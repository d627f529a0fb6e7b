use Rattle.fx_graph.proofs.nodes.Nodes.contribute.Given as goal

abbrev pub ghosts-put_item : goal.ghosts-put_item
ghosts-put_item g a = record { stood = a.sequencer.now }
