use Rattle.std.proofs.Common.{sym, ap, ◌∙◌, option_map}
use Rattle.std.proofs.lemmas.Bool.{not-true, not-false}
use Rattle.fx_names.proofs.Holdings.{other_holder-free, other_holder-own, other_holder-gone, other_holder-there}
use Rattle.fx_names.proofs.registry.Registry.holder_beside.Goals.{else-ne-via-then-ne+else-outlasts_beside, else-ne-via-else-ne}
use Rattle.fx_names.proofs.registry.Registry.holder_beside.Goals as goal

pub returns-in_err-holding : goal.returns-in_err-holding
returns-in_err-holding c = λ old others g k. ap (option_map (λ text. text.now)) c.from_residual.ensures ∙ sym (other_holder-free _ c.args.claim.now old others k (sym c.in_err-holding.ensures))

pub returns-then-outlasts_beside : goal.returns-then-outlasts_beside
returns-then-outlasts_beside c = λ old others g k. sym (other_holder-there _ c.args.claim.now old others k c.in_ok-holding.holding.now (sym c.in_ok-holding.ensures) (not-true _ (sym c.if-ne.ensures)) (sym (c.if-outlasts_beside.ensures old g)))

pub returns-else-ne : goal.returns-else-ne
returns-else-ne c = λ old others g k. elim c.else-ne.branch [
  | else-ne-via-then-ne+else-outlasts_beside w ↦ sym (other_holder-gone _ c.args.claim.now old others k c.in_ok-holding.holding.now (sym c.in_ok-holding.ensures) (sym (w.if-outlasts_beside.ensures old g)))
  | else-ne-via-else-ne w ↦ sym (other_holder-own _ c.args.claim.now old others k c.in_ok-holding.holding.now (sym c.in_ok-holding.ensures) (not-false _ (sym w.if-ne.ensures)))
]
