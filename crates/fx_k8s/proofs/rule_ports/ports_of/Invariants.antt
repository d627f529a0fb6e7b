use Rattle.std.proofs.Common.{◌≡◌, drop}
use Rattle.fx_k8s.specs.Conversion.{ports_from, ports_of}
use Rattle.fx_k8s.proofs.rule_ports.ports_of.Given as goal

-- the entries that are left, behind the ports so far, give all ports
abbrev pub invariant-loop-entry : goal.invariant-loop-entry
invariant-loop-entry l = ports_of l.protocol l.entries ≡ ports_from l.protocol l.ports.items (drop l.entry-index l.entries)
