use Rattle.std.proofs.Common.{List, ap, ◌∙◌, length, arith}
use Rattle.std.specs.List.{remove}
use Rattle.std.specs.FinMap as map
use Rattle.fx_model.specs.declared.chain.ChainRule.{ChainRule}
use Rattle.fx_tables.proofs.Swapped.{put_instead, rules_are}
use Rattle.fx_tables.proofs.tables.remove_from_chain.Goals as goal

pub remove_at-requires : goal.remove_at-requires
remove_at-requires c =
    let same = ap length (rules_are c.args.chains.now c.args.name c.swap.new.value c.swap.ensures.old) in
    omega (arith, same, c.requires)

pub returns : goal.returns
returns c =
    put_instead c.args.chains.now c.swap.new.self c.swap-2.new.self c.args.name _ c.remove_at.new.items c.swap.ensures.swapped c.swap-2.ensures.swapped
    ∙ ap (λ (rs : List ChainRule). map.insert c.args.chains.now c.args.name rs)
    (c.remove_at.ensures ∙ ap (λ (rs : List ChainRule). remove rs c.args.place) (rules_are c.args.chains.now c.args.name c.swap.new.value c.swap.ensures.old))
