use Rattle.std.proofs.Common.{sym, ◌∙◌}
use Rattle.fx_sequencer.proofs.Sending.{sent_new, sent_other, sent_policy, sent_profile, sent_endpoint}
use Rattle.fx_sequencer.proofs.entries.Entries.send_put.Goals as goal

pub returns-then-send_added : goal.returns-then-send_added
returns-then-send_added c =
    let r = sent_new c.args.self.now (sym c.if-send_added.true ∙ c.send_added.ensures.found, c.send_added.ensures.sent) in
    record { found = r.found_is; sent = r.sent_is; wanted = r.wanted_is }

pub returns-then-send_changed : goal.returns-then-send_changed
returns-then-send_changed c =
    let r = sent_other c.args.self.now (sym c.if-send_added.false ∙ c.send_added.ensures.found, c.send_added.ensures.sent) (sym c.if-send_changed.true ∙ c.send_changed.ensures.found, c.send_changed.ensures.sent) in
    record { found = r.found_is; sent = r.sent_is; wanted = r.wanted_is }

pub returns-then-send_put : goal.returns-then-send_put
returns-then-send_put c =
    let r = sent_policy c.args.self.now (sym c.if-send_added.false ∙ c.send_added.ensures.found, c.send_added.ensures.sent) (sym c.if-send_changed.false ∙ c.send_changed.ensures.found, c.send_changed.ensures.sent) (sym c.if-send_put.true ∙ c.send_put.ensures.found, c.send_put.ensures.sent) in
    record { found = r.found_is; sent = r.sent_is; wanted = r.wanted_is }

pub returns-then-send_put-2 : goal.returns-then-send_put-2
returns-then-send_put-2 c =
    let r = sent_profile c.args.self.now (sym c.if-send_added.false ∙ c.send_added.ensures.found, c.send_added.ensures.sent) (sym c.if-send_changed.false ∙ c.send_changed.ensures.found, c.send_changed.ensures.sent) (sym c.if-send_put.false ∙ c.send_put.ensures.found, c.send_put.ensures.sent) (sym c.if-send_put-2.true ∙ c.send_put-2.ensures.found, c.send_put-2.ensures.sent) in
    record { found = r.found_is; sent = r.sent_is; wanted = r.wanted_is }

pub returns : goal.returns
returns c =
    let r = sent_endpoint c.args.self.now (sym c.if-send_added.false ∙ c.send_added.ensures.found, c.send_added.ensures.sent) (sym c.if-send_changed.false ∙ c.send_changed.ensures.found, c.send_changed.ensures.sent) (sym c.if-send_put.false ∙ c.send_put.ensures.found, c.send_put.ensures.sent) (sym c.if-send_put-2.false ∙ c.send_put-2.ensures.found, c.send_put-2.ensures.sent) (c.send_put-3.ensures.found, c.send_put-3.ensures.sent) in
    record { found = r.found_is; sent = r.sent_is; wanted = r.wanted_is }
