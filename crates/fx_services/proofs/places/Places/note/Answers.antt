use Rattle.std.proofs.Common.{sym, ◌∙◌}
use Rattle.fx_services.proofs.PlaceLemmas.{noted_kept, noted_new}
use Rattle.fx_services.proofs.places.Places.note.Goals as goal

pub returns-then-is_kept-clause-flushed : goal.returns-then-is_kept-clause-flushed
returns-then-is_kept-clause-flushed c =
    let was = c.args.self.now in
    let now = c.exchange.new.self in
    noted_kept was.lists now.lists was.before now.before c.args.key.now c.args.lists c.in_ok-had.ensures.lists c.in_ok-had.ensures.same
    (sym c.is_kept.ensures ∙ c.if-is_kept.true)

pub returns-clause-flushed : goal.returns-clause-flushed
returns-clause-flushed c =
    let was = c.args.self.now in
    let now = c.exchange.new.self in
    noted_new was.lists now.lists was.before now.before c.insert.new.self c.args.key.now _ c.args.lists c.in_ok-had.had c.in_ok-had.ensures.lists c.in_ok-had.ensures.same
    (sym c.is_kept.ensures ∙ c.if-is_kept.false) c.in_ok-had.ensures.had c.in_ok-copied.ensures c.in_ok-insert.ensures.ok
