use Rattle.std.proofs.Common.{is_some, ap, ◌∙◌}
use Rattle.std.specs.FinMap as map
use Rattle.fx_base.specs.Set as set
use Rattle.fx_model.specs.Messages.{members_of}
use Rattle.fx_sequencer.proofs.Viewing.{sets_now}
use Rattle.fx_sequencer.proofs.sequencer.SequencerSetSink.member_off.Goals as goal

pub take_member-requires-clause-there : goal.take_member-requires-clause-there
take_member-requires-clause-there c = ap (λ v. is_some (map.get v.wanted.sets c.args.name)) c.self.view_is ∙ c.requires.there

pub take_member-requires-clause-member : goal.take_member-requires-clause-member
take_member-requires-clause-member c = ap (λ v. set.contains (members_of (map.get v.wanted.sets c.args.name)) c.args.member) c.self.view_is ∙ c.requires.member

pub returns-clause-ok : goal.returns-clause-ok
returns-clause-ok c = sets_now c.self.inside.entries c.self.view_is (λ m. map.insert m c.args.name (set.remove (members_of (map.get m c.args.name)) c.args.member)) c.in_ok-take_member.ensures.ok
