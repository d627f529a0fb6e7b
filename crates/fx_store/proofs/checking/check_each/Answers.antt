use Rattle.std.proofs.Common.{[], ◌++◌, sym, ap, ◌∙◌, take, subst}
use Rattle.fx_names.specs.Claims.{first_clash}
use Rattle.fx_names.specs.Holding.{HoldsClaims}
use Rattle.fx_names.proofs.ClaimLists.{longer}
use Rattle.fx_store.specs.Checking.{IsCheckFault}
use Rattle.fx_store.proofs.Checked.{clash_held, clash_seen, no_clash, fault_on}
use Rattle.fx_store.proofs.checking.check_each.Goals as goal

pub returns-in_err-check_claim : goal.returns-in_err-check_claim
returns-in_err-check_claim c = λ old kept g k.
    let fault = c.in_err-check_claim.field-0.0 in
    fault_on c.from_residual.result fault (first_clash kept c.args.new.now) c.from_residual.ensures.1
    (subst (IsCheckFault fault) (sym (c.loop-claim.invariant.left old kept g k))
    (clash_held kept c.args.new.now c.loop-claim.claim-index c.claim-item.result c.loop-claim-test.true c.claim-item.is fault (c.in_err-check_claim.ensures old kept g k)))

pub returns-in_err-check_claim-2 : goal.returns-in_err-check_claim-2
returns-in_err-check_claim-2 c = λ old kept g k.
    let fault = c.in_err-check_claim-2.field-0.0 in
    fault_on c.from_residual-in_err-check_claim-2.result fault (first_clash kept c.args.new.now) c.from_residual-in_err-check_claim-2.ensures.1
    (subst (IsCheckFault fault) (sym (c.loop-claim.invariant.left old kept g k))
    (clash_seen kept c.args.new.now c.loop-claim.claim-index c.claim-item.result c.loop-claim-test.true c.claim-item.is (c.in_ok-check_claim.ensures old kept g k) fault
    (c.in_err-check_claim-2.ensures [] (take c.loop-claim.claim-index c.args.new.now) c.new-none.ensures c.loop-claim.invariant.seen)))

pub loop-claim-preserved : goal.loop-claim-preserved
loop-claim-preserved c =
    let cs = c.args.new.now in
    let i = c.loop-claim.claim-index in
    let free = c.in_ok-check_claim-2.ensures [] (take i cs) c.new-none.ensures c.loop-claim.invariant.seen in
    record {
      seen = subst (HoldsClaims c.swap.new.self) (ap (λ l. take i cs ++ l) c.from_ref.ensures.value ∙ sym (longer [] cs i c.claim-item.result c.loop-claim-test.true c.claim-item.is))
          (c.in_ok-swap.ensures (take i cs) c.loop-claim.invariant.seen (ap (first_clash (take i cs)) c.from_ref.ensures.value ∙ free));
      left = λ old kept g k. c.loop-claim.invariant.left old kept g k ∙ no_clash kept cs i c.claim-item.result c.loop-claim-test.true c.claim-item.is (c.in_ok-check_claim.ensures old kept g k) free;
    }
