use Rattle.fx_graph.proofs.nodes.Nodes.order_tier.Given as goal

abbrev pub ghosts-put_tier : goal.ghosts-put_tier
ghosts-put_tier g a = record { stood = a.sequencer.now }
