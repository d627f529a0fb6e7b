use Rattle.std.proofs.Common.{◌==◌, ◌<◌, ◌^◌, ℕ, None, if◌then◌else◌, sym, ap, ◌∙◌, arith}
use Rattle.fx_base.specs.Nets.{lower_half, upper_half}
use Rattle.fx_base.specs.declared.net.Net.{Net}
use Rattle.fx_base.proofs.NetLemmas.{both, halves_are}
use Rattle.fx_base.proofs.net.Net.halves.Goals as goal

pub returns-then-self-eq0 : goal.returns-then-self-eq0
returns-then-self-eq0 c =
    let n : Net = c.args.self.now in
    let fits : n.addr.0 < 2 ^ 32 = omega (arith, c.if-self-eq0.true) in
    halves_are n _ _ c.if-self-eq0.true fits c.around.ensures.address c.around.ensures.length c.around-then-self-eq0.ensures.address c.around-then-self-eq0.ensures.length
    ∙ ap (λ (l : ℕ). if l == 0 then both (lower_half n) (upper_half n) else None) (sym c.if-self-eq0.true)
