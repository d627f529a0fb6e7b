use Rattle.std.proofs.Common.{sym, ap, subst}
use Rattle.fx_graph_view.specs.Noted.{AreNoted, Before}
use Rattle.fx_graph_view.proofs.NotedLemmas.{noted_none}
use Rattle.fx_graph_view.proofs.scan_log.ScanLog.new.Goals as goal

pub invariant_of-result : goal.invariant_of-result
invariant_of-result g c = record {
  view = record { sent = ap (λ s. s.sent) c.requires.sequencer; sets = ap (λ s. s.wanted.sets) c.requires.sequencer };
  noted = subst (λ (m : Before). AreNoted m g.K.ScanStart.scanned_then.uses c.args.uses) (sym c.new.ensures) (noted_none c.args.uses g.K.ScanStart.scanned_then.uses c.requires.uses);
  formed = c.requires.formed;
}
