use Rattle.fx_graph.proofs.coming.feed_one_in.Given as goal

abbrev pub ghosts-put_selector : goal.ghosts-put_selector
ghosts-put_selector g a = record { pairs_then = a.self.now.pairs }

abbrev pub ghosts-supply_matches : goal.ghosts-supply_matches
ghosts-supply_matches g a = record { stood = a.sequencer.now }
