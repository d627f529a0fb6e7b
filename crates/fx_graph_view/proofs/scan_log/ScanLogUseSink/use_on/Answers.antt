use Rattle.std.proofs.Common.{sym, ap, ◌∙◌, subst, is_some}
use Rattle.std.specs.FinMap as map
use Rattle.fx_graph_view.specs.Kept.{IsKeptSince}
use Rattle.fx_graph_view.proofs.NotedKept.{noted_unused, used_noted}
use Rattle.fx_graph_view.proofs.scan_log.ScanLogUseSink.use_on.Goals as goal

pub invariant_of-self-in_err-put_use : goal.invariant_of-self-in_err-put_use
invariant_of-self-in_err-put_use g c =
    subst (λ uses. IsKeptSince g.K.ScanStart.scanned_then (record c.self.inside.scanned { before = c.note_unused.new.before; uses = uses })) (sym c.in_err-put_use.ensures.err)
    (noted_unused g.K.ScanStart.scanned_then c.self.inside.scanned c.self.invariant c.args.name c.note_unused.new.before
    (ap (λ v. is_some (map.get v.uses c.args.name)) c.self.view_is ∙ c.requires.absent) c.in_ok-note_unused.ensures.ok)

pub invariant_of-self-2 : goal.invariant_of-self-2
invariant_of-self-2 g c =
    used_noted g.K.ScanStart.scanned_then c.self.inside.scanned c.self.invariant c.args.name c.note_unused.new.before c.put_use.new.uses c.args.set.now
    (ap (λ v. is_some (map.get v.uses c.args.name)) c.self.view_is ∙ c.requires.absent) c.in_ok-note_unused.ensures.ok
    (c.in_ok-put_use.ensures.ok ∙ ap (map.insert c.self.inside.scanned.uses c.args.name) c.in_ok-set.ensures.cases)
    (record { kind = c.requires.kind; made = c.requires.set; selector = c.requires.selector })
