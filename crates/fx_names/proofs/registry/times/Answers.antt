use Rattle.std.proofs.Common.{◌≡◌, ℕ, sym, ap, ◌∙◌, cond, arith}
use Rattle.fx_names.specs.declared.claim.Claim.{Claim}
use Rattle.fx_names.specs.Claims.{is_same}
use Rattle.fx_names.proofs.ClaimLists.{times-more, is_same-swap}
use Rattle.fx_names.proofs.registry.times.Goals.{then-is_of, else-is_of}
use Rattle.fx_names.proofs.registry.times.Goals as goal

pub loop-claim-preserved : goal.loop-claim-preserved
loop-claim-preserved c =
    let wanted : Claim = record { name = c.args.name.now; holder = c.args.holder.now } in
    let more = times-more wanted c.args.claims.now c.loop-claim.claim-index c.claim-item.result c.loop-claim-test.true c.claim-item.is in
    let same : is_same wanted c.claim-item.result ≡ c.is_of.result = is_same-swap wanted c.claim-item.result ∙ sym c.is_of.ensures in
    elim c.if-is_of.branch [
      | then-is_of w ↦
          let one : cond {A = ℕ} (is_same wanted c.claim-item.result) 1 0 ≡ 1 = ap (λ b. cond b 1 0) (same ∙ w.if-is_of.true) in
          record { bounded = omega arith; counted = omega arith }
      | else-is_of w ↦
          let none : cond {A = ℕ} (is_same wanted c.claim-item.result) 1 0 ≡ 0 = ap (λ b. cond b 1 0) (same ∙ w.if-is_of.false) in
          record { bounded = omega arith; counted = omega arith }
    ]
