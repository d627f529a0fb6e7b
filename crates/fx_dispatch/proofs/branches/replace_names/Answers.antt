use Rattle.std.proofs.Common.{◌==◌, List, ℕ, length, ap, sym, ◌∙◌, arith}
use Rattle.fx_dispatch.proofs.Regrouped.{none_with, these_with, some_there}
use Rattle.fx_dispatch.proofs.branches.replace_names.Goals as goal

-- there are names now, so there were some
pub swap-requires : goal.swap-requires
swap-requires c = (
  grind arith,
  (
    grind arith,
    some_there c.args.branches.now c.args.byte.now c.args.names c.requires
        (sym (c.is_empty.ensures ∙ ap (λ (ns : List (List ℕ)). length ns == 0) c.as_slice.ensures) ∙ c.if-is_empty.false),
  ),
)

pub returns-then-is_empty : goal.returns-then-is_empty
returns-then-is_empty c =
    c.remove.ensures.removed
    ∙ sym (none_with c.args.branches.now c.args.byte.now c.args.names
    (sym (c.is_empty.ensures ∙ ap (λ (ns : List (List ℕ)). length ns == 0) c.as_slice.ensures) ∙ c.if-is_empty.true))

pub returns : goal.returns
returns c =
    c.swap.ensures.swapped
    ∙ sym (these_with c.args.branches.now c.args.byte.now c.args.names
    (sym (c.is_empty.ensures ∙ ap (λ (ns : List (List ℕ)). length ns == 0) c.as_slice.ensures) ∙ c.if-is_empty.false))
