use Rattle.std.proofs.Common.{true, sym, ◌∙◌}
use Rattle.fx_members.proofs.TellLemmas.{stands, keys_kept, told_first, told_more}
use Rattle.fx_members.proofs.changes.add_member.Goals as goal

pub member_on-requires-clause-absent : goal.member_on-requires-clause-absent
member_on-requires-clause-absent g c =
    stands c.args.counts.now c.args.name c.args.member (g.S.SetSink.sets c.args.sink.now) c.requires.told true (sym c.in_ok-raise.ensures.first ∙ c.if-branch.true)

pub returns-in_ok-member_on-clause-told : goal.returns-in_ok-member_on-clause-told
returns-in_ok-member_on-clause-told g c =
    told_first c.args.counts.now c.raise.new.self c.args.name c.args.member (g.S.SetSink.sets c.args.sink.now) c.requires.told c.in_ok-raise.ensures.counts
    (g.S.SetSink.sets c.member_on.new.self) c.in_ok-member_on.ensures

pub returns-in_ok-member_on-clause-keys : goal.returns-in_ok-member_on-clause-keys
returns-in_ok-member_on-clause-keys g c =
    keys_kept (g.S.SetSink.sets c.args.sink.now) c.args.name _ (g.S.SetSink.sets c.member_on.new.self) c.requires.there c.in_ok-member_on.ensures

pub returns-else-branch-clause-told : goal.returns-else-branch-clause-told
returns-else-branch-clause-told g c =
    told_more c.args.counts.now c.raise.new.self c.args.name c.args.member (g.S.SetSink.sets c.args.sink.now) c.requires.told c.in_ok-raise.ensures.counts
    (sym c.in_ok-raise.ensures.first ∙ c.if-branch.false)
