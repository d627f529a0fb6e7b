use Rattle.std.proofs.Common.{sym, ◌∙◌}
use Rattle.fx_sequencer.proofs.Viewing.{put_sent, gone_sent}
use Rattle.fx_sequencer.proofs.sequencer.Sequencer.sent.Goals as goal

pub returns-then-send_put : goal.returns-then-send_put
returns-then-send_put c = put_sent c.self.inside.entries c.self.view_is c.send_put.new.self (record { found_is = sym c.if-send_put.true ∙ c.send_put.ensures.found; sent_is = c.send_put.ensures.sent; wanted_is = c.send_put.ensures.wanted })

pub returns : goal.returns
returns c =
    gone_sent c.self.inside.entries c.self.view_is c.send_put.new.self c.send_gone.new.self
    (record { found_is = sym c.if-send_put.false ∙ c.send_put.ensures.found; sent_is = c.send_put.ensures.sent; wanted_is = c.send_put.ensures.wanted })
    (record { sent_is = c.send_gone.ensures.sent; wanted_is = c.send_gone.ensures.wanted })
