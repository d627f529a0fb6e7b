use Rattle.std.proofs.Common.{ℕ, List, ap, ◌∙◌, length, arith}
use Rattle.std.specs.List.{insert}
use Rattle.std.specs.FinMap as map
use Rattle.fx_tables.proofs.Exchanged.{on_err}
use Rattle.fx_tables.proofs.Swapped.{put_instead, put_again}
use Rattle.fx_dispatch.proofs.OneMore.{names_are}
use Rattle.fx_dispatch.proofs.branches.insert_name.Goals as goal

pub insert_at-added-requires : goal.insert_at-added-requires
insert_at-added-requires c =
    let same = ap length (names_are c.args.branches.now c.args.byte.now c.swap.new.value c.swap.ensures.old) in
    omega (arith, same, c.requires.within)

pub returns-in_err-added-clause-err : goal.returns-in_err-added-clause-err
returns-in_err-added-clause-err c =
    on_err c.from_residual.result
    (put_again c.args.branches.now c.swap.new.self c.swap-2.new.self c.args.byte.now _ c.swap.new.value c.swap.ensures.old c.swap.ensures.swapped
    (c.swap-2.ensures.swapped ∙ ap (λ (ns : List (List ℕ)). map.insert c.swap.new.self c.args.byte.now ns) c.in_err-added.ensures.err))

pub returns-clause-ok : goal.returns-clause-ok
returns-clause-ok c =
    put_instead c.args.branches.now c.swap.new.self c.swap-2.new.self c.args.byte.now _ c.insert_at-added.new.items c.swap.ensures.swapped c.swap-2.ensures.swapped
    ∙ ap (λ (ns : List (List ℕ)). map.insert c.args.branches.now c.args.byte.now ns)
    (c.in_ok-added.ensures.ok ∙ ap (λ (ns : List (List ℕ)). insert ns c.args.place c.args.name) (names_are c.args.branches.now c.args.byte.now c.swap.new.value c.swap.ensures.old))
