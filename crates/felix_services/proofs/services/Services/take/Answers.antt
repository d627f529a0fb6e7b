use Rattle.std.proofs.Common.{◌∙◌, ap, sym}
use Rattle.fx_model.specs.Claims.{clash}
use Rattle.fx_replay.specs.Standing as replays
use Rattle.fx_services.specs.Places.{flushed_places}
use Rattle.felix_services.specs.Noting.{noted}
use Rattle.felix_services.specs.Output.{State}
use Rattle.felix_services.specs.Standing.{state_of}
use Rattle.felix_services.proofs.TakingLemmas.{made_state, named_after, refused_state, told_alike}
use Rattle.felix_services.proofs.services.Services.take.Goals as goal

pub take-requires-clause-ready : goal.take-requires-clause-ready
take-requires-clause-ready g c = c.requires.ready.unfailed

pub take-requires-clause-formed : goal.take-requires-clause-formed
take-requires-clause-formed g c = c.requires.read.formed

pub take-requires-clause-interface : goal.take-requires-clause-interface
take-requires-clause-interface g c = c.requires.read.on_workloads c.args.self.now.replay.agent.resources.node c.requires.ready.named

-- a name is taken

pub returns-in-Some-clause-ready : goal.returns-in-Some-clause-ready
returns-in-Some-clause-ready g c =
    let dg = g.R.DigestRule.digest_of in
    let agent = c.args.self.now.replay.agent in
    let u = c.args.change.update in
    record {
      unfailed = c.in_ok-refusal.ensures.ready;
      named = named_after (replays.state_of dg agent) u (clash dg agent.resources u) c.requires.ready.named (replays.state_of dg c.take.new.self.agent) c.in_ok-refusal.ensures.state;
    }

pub returns-in-Some-clause-state : goal.returns-in-Some-clause-state
returns-in-Some-clause-state g c =
    let dg = g.R.DigestRule.digest_of in
    let was = c.args.self.now in
    let l = c.args.change in
    let s : State = state_of dg was.replay.agent was.places in
    refused_state s l (clash dg was.replay.agent.resources l.update) c.in-Some.refusal (replays.state_of dg c.take.new.self.agent)
    c.in_ok-refusal.ensures.state (sym c.in-Some.is ∙ c.in_ok-refusal.ensures.refused)

pub returns-in-Some-clause-refused : goal.returns-in-Some-clause-refused
returns-in-Some-clause-refused g c =
    let l = c.args.change in
    sym c.in-Some.is ∙ c.in_ok-refusal.ensures.refused ∙ told_alike l (clash g.R.DigestRule.digest_of c.args.self.now.replay.agent.resources l.update)

-- none is

pub returns-in_ok-take_note-in-None-clause-ready : goal.returns-in_ok-take_note-in-None-clause-ready
returns-in_ok-take_note-in-None-clause-ready g c =
    let dg = g.R.DigestRule.digest_of in
    let agent = c.args.self.now.replay.agent in
    let u = c.args.change.update in
    record {
      unfailed = c.in_ok-refusal.ensures.ready;
      named = named_after (replays.state_of dg agent) u (clash dg agent.resources u) c.requires.ready.named (replays.state_of dg c.take.new.self.agent) c.in_ok-refusal.ensures.state;
    }

pub returns-in_ok-take_note-in-None-clause-state : goal.returns-in_ok-take_note-in-None-clause-state
returns-in_ok-take_note-in-None-clause-state g c =
    let dg = g.R.DigestRule.digest_of in
    let was = c.args.self.now in
    let l = c.args.change in
    let s : State = state_of dg was.replay.agent was.places in
    let now = c.take_note.new.places in
    made_state s l (clash dg was.replay.agent.resources l.update) (replays.state_of dg c.take.new.self.agent) now.lists (flushed_places now.lists now.before)
    c.in_ok-refusal.ensures.state (sym c.in-None.is ∙ c.in_ok-refusal.ensures.refused)
    (c.in_ok-take_note-in-None.ensures.lists ∙ ap (noted was.places.lists) c.in_ok-note.ensures) c.in_ok-take_note-in-None.ensures.flushed

pub returns-in_ok-take_note-in-None-clause-refused : goal.returns-in_ok-take_note-in-None-clause-refused
returns-in_ok-take_note-in-None-clause-refused g c =
    let l = c.args.change in
    sym c.in-None.is ∙ c.in_ok-refusal.ensures.refused ∙ told_alike l (clash g.R.DigestRule.digest_of c.args.self.now.replay.agent.resources l.update)
