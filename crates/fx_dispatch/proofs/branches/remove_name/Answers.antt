use Rattle.std.proofs.Common.{ℕ, List, ap, ◌∙◌, length, arith}
use Rattle.std.specs.List.{remove}
use Rattle.std.specs.FinMap as map
use Rattle.fx_tables.proofs.Swapped.{put_instead}
use Rattle.fx_dispatch.proofs.OneMore.{names_are}
use Rattle.fx_dispatch.proofs.branches.remove_name.Goals as goal

pub remove_at-requires : goal.remove_at-requires
remove_at-requires c =
    let same = ap length (names_are c.args.branches.now c.args.byte.now c.swap.new.value c.swap.ensures.old) in
    omega (arith, same, c.requires.within)

pub returns : goal.returns
returns c =
    put_instead c.args.branches.now c.swap.new.self c.swap-2.new.self c.args.byte.now _ c.remove_at.new.items c.swap.ensures.swapped c.swap-2.ensures.swapped
    ∙ ap (λ (ns : List (List ℕ)). map.insert c.args.branches.now c.args.byte.now ns)
    (c.remove_at.ensures ∙ ap (λ (ns : List (List ℕ)). remove ns c.args.place) (names_are c.args.branches.now c.args.byte.now c.swap.new.value c.swap.ensures.old))
