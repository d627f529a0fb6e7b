use Rattle.std.proofs.Common.{◌+◌, drop, get_or, subst}
use Rattle.fx_base.specs.Forms.{Leaves, Means, IsOptional}
use Rattle.fx_base.proofs.FormLemmas.{optional_value, optional_fault, optional_other, first_byte, after_mark}
use Rattle.fx_base.proofs.number.optional.Goals as goal

pub returns-in-Ok : goal.returns-in-Ok
returns-in-Ok c =
    subst (λ t. Means (IsOptional c.args.absent c.args.mark c.args.low c.args.high) t c.in-Ok.value) (after_mark c.args.text.now c.args.mark c.in-len1-up.len_at_least c.if-first-mark.true)
    (optional_value c.args.absent c.args.mark c.args.low c.args.high _ c.in-Ok.value c.in-Ok.ensures)

pub returns-in-Err : goal.returns-in-Err
returns-in-Err c =
    subst (λ t. Leaves (IsOptional c.args.absent c.args.mark c.args.low c.args.high) t (c.in-Err.at + 1)) (after_mark c.args.text.now c.args.mark c.in-len1-up.len_at_least c.if-first-mark.true)
    (optional_fault c.args.absent c.args.mark c.args.low c.args.high _ c.in-Err.at c.in-Err.ensures)

pub returns-in_default : goal.returns-in_default
returns-in_default c =
    subst (λ t. Leaves (IsOptional c.args.absent c.args.mark c.args.low c.args.high) t 0) (first_byte c.args.text.now c.in-len1-up.len_at_least)
    (optional_other c.args.absent c.args.mark c.args.low c.args.high (get_or c.args.text.now 0 0) (drop 1 c.args.text.now) c.if-first-mark.false)
