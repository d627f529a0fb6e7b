use Rattle.std.proofs.Common.{sym, ◌∙◌}
use Rattle.fx_graph_view.proofs.NotedKept.{off_before, off_now}
use Rattle.fx_graph_view.proofs.scan_log.ScanLogUseSink.use_off.Goals as goal

pub invariant_of-self : goal.invariant_of-self
invariant_of-self g c = off_before g.K.ScanStart.scanned_then c.self.inside.scanned c.self.invariant c.args.name c.drop_use.new.uses (sym c.contains_key.ensures ∙ c.if-contains_key.true) c.drop_use.ensures

pub invariant_of-self-2 : goal.invariant_of-self-2
invariant_of-self-2 g c = off_now g.K.ScanStart.scanned_then c.self.inside.scanned c.self.invariant c.args.name c.take_noted.new.before c.take_noted.new.uses (sym c.contains_key.ensures ∙ c.if-contains_key.false) c.in_ok-take_noted.ensures.noted c.in_ok-take_noted.ensures.uses
