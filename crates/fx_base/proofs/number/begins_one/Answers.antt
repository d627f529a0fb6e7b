use Rattle.std.proofs.Common.{subst, sym, arith, refl, eq-eqb}
use Rattle.std.specs.Fmt.{decimal}
use Rattle.fx_base.specs.Same.{same_numbers}
use Rattle.fx_base.specs.Forms.{Begins, IsNumber}
use Rattle.fx_base.proofs.Decimals.{zero_begins, begins_zero, tried_more, tried_reaches, tried_fails}
use Rattle.fx_base.proofs.number.begins_one.Goals as goal

pub returns-then-value-eq0 : goal.returns-then-value-eq0
returns-then-value-eq0 c =
    let low = c.args.low in
    let high = c.args.high in (
      λ t. subst (λ n. Begins (IsNumber low high) (decimal n)) (sym c.if-value-eq0.true) (zero_begins low high (same_numbers low 0 t)),
      λ b. eq-eqb low 0 (begins_zero low high c.requires.range.1 (subst (λ n. Begins (IsNumber low high) (decimal n)) c.if-value-eq0.true b)),
    )

pub returns-then-low-greatest : goal.returns-then-low-greatest
returns-then-low-greatest c = (
  λ t. tried_reaches c.args.low c.args.high c.args.value c.loop-least.least c.loop-least.greatest c.requires.range.0 c.requires.range.1 (omega arith) c.loop-least-test.true c.if-low-greatest.true c.loop-least.invariant,
  λ b. refl,
)

pub loop-least-preserved : goal.loop-least-preserved
loop-least-preserved c = tried_more c.args.low c.args.value c.loop-least.least c.loop-least.greatest c.if-low-greatest.false c.loop-least.invariant

pub returns : goal.returns
returns c = (
  λ t. cc,
  λ b. absurd (tried_fails c.args.low c.args.high c.args.value c.loop-least.least c.loop-least.greatest c.requires.range.1 (omega arith) (omega arith) c.loop-least.invariant b),
)
