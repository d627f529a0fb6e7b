use Rattle.fx_graph.proofs.nodes.Nodes.forget.Given as goal

abbrev pub ghosts-supply_matches : goal.ghosts-supply_matches
ghosts-supply_matches g a = record { stood = a.sequencer.now }
