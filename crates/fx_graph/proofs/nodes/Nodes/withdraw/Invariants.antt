use Rattle.fx_graph.proofs.nodes.Nodes.withdraw.Given as goal

abbrev pub ghosts-remove_item : goal.ghosts-remove_item
ghosts-remove_item g a = record { stood = a.sequencer.now }
