use Rattle.std.proofs.Common.{sym, ◌∙◌}
use Rattle.fx_sequencer.proofs.Sending.{gone_endpoint, gone_profile, gone_policy, gone_set}
use Rattle.fx_sequencer.proofs.entries.Entries.send_gone.Goals as goal

pub returns-then-send_taken : goal.returns-then-send_taken
returns-then-send_taken c =
    let r = gone_endpoint c.args.self.now (sym c.if-send_taken.true ∙ c.send_taken.ensures.found, c.send_taken.ensures.sent) in
    record { sent = r.sent_is; wanted = r.wanted_is }

pub returns-then-send_taken-2 : goal.returns-then-send_taken-2
returns-then-send_taken-2 c =
    let r = gone_profile c.args.self.now (sym c.if-send_taken.false ∙ c.send_taken.ensures.found, c.send_taken.ensures.sent) (sym c.if-send_taken-2.true ∙ c.send_taken-2.ensures.found, c.send_taken-2.ensures.sent) in
    record { sent = r.sent_is; wanted = r.wanted_is }

pub returns-then-send_taken-3 : goal.returns-then-send_taken-3
returns-then-send_taken-3 c =
    let r = gone_policy c.args.self.now (sym c.if-send_taken.false ∙ c.send_taken.ensures.found, c.send_taken.ensures.sent) (sym c.if-send_taken-2.false ∙ c.send_taken-2.ensures.found, c.send_taken-2.ensures.sent) (sym c.if-send_taken-3.true ∙ c.send_taken-3.ensures.found, c.send_taken-3.ensures.sent) in
    record { sent = r.sent_is; wanted = r.wanted_is }

pub returns : goal.returns
returns c =
    let r = gone_set c.args.self.now (sym c.if-send_taken.false ∙ c.send_taken.ensures.found, c.send_taken.ensures.sent) (sym c.if-send_taken-2.false ∙ c.send_taken-2.ensures.found, c.send_taken-2.ensures.sent) (sym c.if-send_taken-3.false ∙ c.send_taken-3.ensures.found, c.send_taken-3.ensures.sent) (c.send_taken-4.ensures.found, c.send_taken-4.ensures.sent) in
    record { sent = r.sent_is; wanted = r.wanted_is }
