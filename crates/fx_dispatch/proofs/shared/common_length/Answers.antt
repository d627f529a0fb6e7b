use Rattle.std.proofs.Common.{◌++◌, take, sym, ap, ◌∙◌}
use Rattle.std.proofs.lemmas.List.{append-nil}
use Rattle.fx_dispatch.proofs.SharedLemmas.{past_end}
use Rattle.fx_dispatch.proofs.shared.common_length.Goals as goal

pub returns-else-n-ys-clause-shared : goal.returns-else-n-ys-clause-shared
returns-else-n-ys-clause-shared c =
    let xs = c.args.xs.now in
    let n = c.loop-n.n in
    sym (append-nil (take n xs)) ∙ ap (λ t. take n xs ++ t) (sym (past_end xs c.args.ys.now n c.if-n-ys.false)) ∙ c.loop-n.invariant.shared
