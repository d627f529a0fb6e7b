-- How the lists of ports, of at most 15 slots by iptables-extensions(8), stand while they are cut.
use Rattle.std.specs.Prelude.{List, [], ◌∷◌, ◌++◌}
use Rattle.fx_base.specs.declared.net.PortRange.{PortRange}
use Rattle.fx_model.specs.Rendering.{lists_from}
use Rattle.fx_rules.specs.declared.cuts.Cut.{Cut}

-- these ranges before those of the first list
abbrev pub before_first : List PortRange → List (List PortRange) → List (List PortRange)
before_first c [] = c ∷ []
before_first c (d ∷ ds) = (c ++ d) ∷ ds

-- the lists once the ranges that are left are cut too
abbrev pub pending : Cut → List PortRange → List (List PortRange)
pending cut rest = cut.full ++ before_first cut.last (lists_from cut.room rest)
