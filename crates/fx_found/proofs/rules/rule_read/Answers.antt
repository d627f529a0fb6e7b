use Rattle.std.proofs.Common.{List, sym, subst}
use Rattle.fx_model.specs.declared.chain.Match.{Match}
use Rattle.fx_found.proofs.Parts.{IsHalfRule, rule_begun}
use Rattle.fx_found.proofs.rules.rule_read.Goals as goal

pub parts-init : goal.parts-init
parts-init c =
    let text = c.args.text.now in
    subst (λ (ms : List Match). IsHalfRule ms text text) (sym c.new-matches.ensures.items) (rule_begun text)
