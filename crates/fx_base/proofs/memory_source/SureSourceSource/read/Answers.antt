use Rattle.std.proofs.Common.{◌∙◌, ◌+◌, ◌-◌, ℕ, List, ap, take, drop, arith}
use Rattle.fx_base.proofs.Giving.{reads_prefix}
use Rattle.fx_base.proofs.memory_source.SureSourceSource.read.Goals as goal

pub returns-clause-ok : goal.returns-clause-ok
returns-clause-ok c =
    let at = c.args.self.now.at in
    let n = c.min-n.result in
    reads_prefix c.args.self.now.bytes.items at n (at + n - at) c.copy_from_slice.new.self _ _ (omega arith) (omega arith)
    (c.copy_from_slice.ensures.after ∙ ap (λ (l : List ℕ). take (at + n - at) (drop at l)) c.deref.ensures.value)
