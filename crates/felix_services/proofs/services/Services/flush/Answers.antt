use Rattle.std.proofs.Common.{ℕ, List, [], sym, ap, subst}
use Rattle.std.proofs.lemmas.Result.{on_ok_weaker}
use Rattle.std.specs.Prelude.{◌≢◌}
use Rattle.fx_replay.specs.Output as replays
use Rattle.felix_services.specs.Output.{State}
use Rattle.felix_services.specs.Standing.{state_of}
use Rattle.felix_services.proofs.TakingLemmas.{on_ok_two}
use Rattle.felix_services.proofs.services.Services.flush.Goals as goal

pub flush-sent-requires : goal.flush-sent-requires
flush-sent-requires g c = record { ready = c.requires.ready.unfailed }

pub returns-clause-ready : goal.returns-clause-ready
returns-clause-ready g c =
    on_ok_two c.flush-sent.result
    (λ unfailed is. record {
      unfailed = unfailed;
      named = subst (λ (n : List ℕ). n ≢ []) (sym (ap (λ (s : replays.State). s.resources.node) is)) c.requires.ready.named;
    })
    c.flush-sent.ensures.ready c.flush-sent.ensures.state

pub returns-clause-state : goal.returns-clause-state
returns-clause-state g c =
    let was = c.args.self.now in
    let s : State = state_of g.R.DigestRule.digest_of was.replay.agent was.places in
    on_ok_weaker c.flush-sent.result
    (λ is. λ j. record s { replay = is j; places = c.flush.ensures.lists j; flushed = c.flush.ensures.flushed j })
    c.flush-sent.ensures.state

pub returns-clause-writes : goal.returns-clause-writes
returns-clause-writes g c = c.flush-sent.ensures.writes
