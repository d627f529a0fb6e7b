use Rattle.std.proofs.Common.{List, ap, ◌∙◌, length, arith}
use Rattle.std.specs.List.{insert}
use Rattle.std.specs.FinMap as map
use Rattle.fx_model.specs.declared.chain.ChainRule.{ChainRule}
use Rattle.fx_tables.proofs.Exchanged.{on_err}
use Rattle.fx_tables.proofs.Swapped.{put_instead, put_again, rules_are}
use Rattle.fx_tables.proofs.tables.insert_into_chain.Goals as goal

pub insert_at-added-requires : goal.insert_at-added-requires
insert_at-added-requires c =
    let same = ap length (rules_are c.args.chains.now c.args.name c.swap.new.value c.swap.ensures.old) in
    omega (arith, same, c.requires)

pub returns-in_err-added-clause-err : goal.returns-in_err-added-clause-err
returns-in_err-added-clause-err c =
    on_err c.from_residual.result
    (put_again c.args.chains.now c.swap.new.self c.swap-2.new.self c.args.name _ c.swap.new.value c.swap.ensures.old c.swap.ensures.swapped
    (c.swap-2.ensures.swapped ∙ ap (λ (rs : List ChainRule). map.insert c.swap.new.self c.args.name rs) c.in_err-added.ensures.err))

pub returns-clause-ok : goal.returns-clause-ok
returns-clause-ok c =
    put_instead c.args.chains.now c.swap.new.self c.swap-2.new.self c.args.name _ c.insert_at-added.new.items c.swap.ensures.swapped c.swap-2.ensures.swapped
    ∙ ap (λ (rs : List ChainRule). map.insert c.args.chains.now c.args.name rs)
    (c.in_ok-added.ensures.ok ∙ ap (λ (rs : List ChainRule). insert rs c.args.place c.args.rule) (rules_are c.args.chains.now c.args.name c.swap.new.value c.swap.ensures.old))
