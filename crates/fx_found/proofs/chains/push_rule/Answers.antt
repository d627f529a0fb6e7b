use Rattle.std.proofs.Common.{◌++◌, sym, ap, ◌∙◌}
use Rattle.std.proofs.lemmas.Result.{on_ok_weaker}
use Rattle.fx_found.specs.declared.row.Row.{Row}
use Rattle.fx_found.specs.Found.{rule_at}
use Rattle.fx_found.proofs.Taking.{held_at, pushed}
use Rattle.fx_found.proofs.chains.push_rule.Goals as goal

pub returns-in-Rule : goal.returns-in-Rule
returns-in-Rule c =
    on_ok_weaker c.push_at.result
    (λ e name. pushed c.args.rules.now c.push_at.new.rules c.in-Rule.chain c.in-Rule.rule e name ∙ ap (λ (r : Row). held_at c.args.rules.now name ++ rule_at name r) (sym c.in-Rule.is))
    c.push_at.ensures
