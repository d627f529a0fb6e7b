use Rattle.std.proofs.Common.{false, sym, ◌∙◌}
use Rattle.fx_members.specs.Counts.{count_at}
use Rattle.fx_members.proofs.TellLemmas.{counted, stands, keys_kept, told_last, told_less}
use Rattle.fx_members.proofs.changes.take_member.Goals as goal

pub member_off-requires-clause-member : goal.member_off-requires-clause-member
member_off-requires-clause-member g c =
    stands c.args.counts.now c.args.name c.args.member (g.S.SetSink.sets c.args.sink.now) c.requires.told false
    (counted (count_at c.args.counts.now c.args.name c.args.member) c.requires.counted)

pub returns-in_ok-member_off-clause-told : goal.returns-in_ok-member_off-clause-told
returns-in_ok-member_off-clause-told g c =
    told_last c.args.counts.now c.lower.new.self c.args.name c.args.member (g.S.SetSink.sets c.args.sink.now) c.requires.told c.in_ok-lower.ensures.counts
    (g.S.SetSink.sets c.member_off.new.self) c.in_ok-member_off.ensures (sym c.in_ok-lower.ensures.last ∙ c.if-branch.true)

pub returns-in_ok-member_off-clause-keys : goal.returns-in_ok-member_off-clause-keys
returns-in_ok-member_off-clause-keys g c =
    keys_kept (g.S.SetSink.sets c.args.sink.now) c.args.name _ (g.S.SetSink.sets c.member_off.new.self) c.requires.there c.in_ok-member_off.ensures

pub returns-else-branch-clause-told : goal.returns-else-branch-clause-told
returns-else-branch-clause-told g c =
    told_less c.args.counts.now c.lower.new.self c.args.name c.args.member (g.S.SetSink.sets c.args.sink.now) c.requires.told c.in_ok-lower.ensures.counts
    (counted (count_at c.args.counts.now c.args.name c.args.member) c.requires.counted)
    (sym c.in_ok-lower.ensures.last ∙ c.if-branch.false)
