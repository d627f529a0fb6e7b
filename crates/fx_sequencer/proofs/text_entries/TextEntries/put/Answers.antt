use Rattle.std.proofs.Common.{ap, ◌∙◌}
use Rattle.fx_base.specs.Set as set
use Rattle.fx_sequencer.proofs.EntryMaps.{entry_maps, put_maps}
use Rattle.fx_sequencer.proofs.Keeping.{put_pending, refused_pending}
use Rattle.fx_sequencer.proofs.text_entries.TextEntries.put.Goals as goal

pub invariant_of-self-in-Ok : goal.invariant_of-self-in-Ok
invariant_of-self-in-Ok g c =
    put_pending c.self.invariant c.args.key.now g.met.V.Exact.same c.args.value c.in-Ok.ensures.ok
    c.in-Ok.differs c.in-Ok.ensures.differs (c.in_ok-insert.ensures.ok ∙ ap (set.insert c.self.inside.to_put) c.in_ok-clone.ensures.cases) c.keep_if.ensures c.remove.ensures

pub returns-in-Ok-clause-ok : goal.returns-in-Ok-clause-ok
returns-in-Ok-clause-ok g c = put_maps c.self.invariant c.self.view_is c.args.key.now g.met.V.Exact.same c.args.value c.in-Ok.ensures.ok

pub invariant_of-self-in-Err : goal.invariant_of-self-in-Err
invariant_of-self-in-Err g c = refused_pending c.self.invariant c.args.key.now (c.in_ok-insert.ensures.ok ∙ ap (set.insert c.self.inside.to_put) c.in_ok-clone.ensures.cases) c.remove-in-Err.ensures c.in-Err.ensures.absent c.in-Err.ensures.err

pub returns-in-Err-clause-err : goal.returns-in-Err-clause-err
returns-in-Err-clause-err g c = ap entry_maps c.in-Err.ensures.err ∙ c.self.view_is
