use Rattle.std.proofs.Common.{ap, sym, ◌∙◌}
use Rattle.std.specs.Option.{option_copied}
use Rattle.fx_active.proofs.HereLemmas.{some_there, holds_here}
use Rattle.fx_active.proofs.reach.holds_somewhere.Goals as goal

pub returns-in-Some : goal.returns-in-Some
returns-in-Some c =
    c.has_some.ensures ∙ ap (λ o. some_there (option_copied o)) (sym c.in-Some.is)
    ∙ holds_here c.args.held.now.endpoints c.args.held.now.matched c.args.text.now (option_copied c.items.result) c.items.ensures

pub returns-in-None : goal.returns-in-None
returns-in-None c =
    ap (λ o. some_there (option_copied o)) (sym c.in-None.is)
    ∙ holds_here c.args.held.now.endpoints c.args.held.now.matched c.args.text.now (option_copied c.items.result) c.items.ensures
