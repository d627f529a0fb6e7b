use Rattle.fx_graph.proofs.nodes.Nodes.drop_tier.Given as goal

abbrev pub ghosts-remove_tier : goal.ghosts-remove_tier
ghosts-remove_tier g a = record { stood = a.sequencer.now }
