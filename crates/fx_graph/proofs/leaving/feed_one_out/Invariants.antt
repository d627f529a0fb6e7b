use Rattle.fx_graph.proofs.leaving.feed_one_out.Given as goal

abbrev pub ghosts-remove_selector : goal.ghosts-remove_selector
ghosts-remove_selector g a = record { pairs_then = a.self.now.pairs }

abbrev pub ghosts-supply_matches : goal.ghosts-supply_matches
ghosts-supply_matches g a = record { stood = a.sequencer.now }
