use Rattle.std.specs.FinMap as map
use Rattle.fx_graph.proofs.nodes.Nodes.settle.Given as goal

abbrev pub ghosts-supply_matches : goal.ghosts-supply_matches
ghosts-supply_matches g a = record { stood = a.sequencer.now }

abbrev pub ghosts-scan : goal.ghosts-scan
ghosts-scan g a = record { scanned_then = record { sequencer = a.sequencer.now; uses = a.uses.now; before = map.empty } }

abbrev pub ghosts-resolve : goal.ghosts-resolve
ghosts-resolve g a = record { stood = a.sequencer.now }

abbrev pub ghosts-supply_uses : goal.ghosts-supply_uses
ghosts-supply_uses g a = record { stood = a.sequencer.now }
