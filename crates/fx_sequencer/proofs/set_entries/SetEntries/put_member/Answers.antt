use Rattle.std.proofs.Common.{is_some, sym, ap, ◌∙◌}
use Rattle.std.specs.FinMap as maps
use Rattle.fx_base.specs.Set as set
use Rattle.fx_model.specs.Messages.{members_of}
use Rattle.fx_sequencer.proofs.SetKeeping.{changed_at, members_pending, members_refused}
use Rattle.fx_sequencer.proofs.SetMaps.{wanted_as, side_maps}
use Rattle.fx_sequencer.proofs.set_entries.SetEntries.put_member.Goals as goal

pub put_member-put-requires-clause-there : goal.put_member-put-requires-clause-there
put_member-put-requires-clause-there c = sym (ap is_some (wanted_as c.self.invariant c.self.view_is c.args.name.now)) ∙ c.requires.there

pub put_member-put-requires-clause-absent : goal.put_member-put-requires-clause-absent
put_member-put-requires-clause-absent c = ap (λ o. set.contains (members_of o) c.args.member) (sym (wanted_as c.self.invariant c.self.view_is c.args.name.now)) ∙ c.requires.absent

pub invariant_of-self-in_err-put : goal.invariant_of-self-in_err-put
invariant_of-self-in_err-put c =
    members_refused c.self.invariant c.args.name.now (sym (ap is_some (wanted_as c.self.invariant c.self.view_is c.args.name.now)) ∙ c.requires.there) c.in_ok-insert.ensures.ok c.is_other-differs.result c.keep_if.ensures
    c.in_err-put.ensures.err (c.is_other-differs.ensures ∙ ap changed_at c.get.ensures)

pub invariant_of-self-2 : goal.invariant_of-self-2
invariant_of-self-2 c =
    members_pending c.self.invariant c.args.name.now (sym (ap is_some (wanted_as c.self.invariant c.self.view_is c.args.name.now)) ∙ c.requires.there) c.in_ok-insert.ensures.ok c.is_other-differs.result c.keep_if.ensures
    _ c.in_ok-put.ensures.ok (c.is_other-differs.ensures ∙ ap changed_at c.get.ensures)

pub returns-clause-ok : goal.returns-clause-ok
returns-clause-ok c =
    side_maps c.self.invariant c.self.view_is c.args.name.now _ c.in_ok-put.ensures.ok
    ∙ ap (λ o. record c.args.self.now { wanted = maps.insert c.args.self.now.wanted c.args.name.now (set.insert (members_of o) c.args.member) }) (sym (wanted_as c.self.invariant c.self.view_is c.args.name.now))
