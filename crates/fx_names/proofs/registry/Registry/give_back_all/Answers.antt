use Rattle.std.proofs.Common.{◌+◌, ◌++◌, drop, subst}
use Rattle.std.proofs.lemmas.List.{drop_all}
use Rattle.fx_names.specs.Holding.{HoldsClaims}
use Rattle.fx_names.proofs.ClaimLists.{left_at}
use Rattle.fx_names.proofs.registry.Registry.give_back_all.Goals as goal

pub loop-claim-preserved : goal.loop-claim-preserved
loop-claim-preserved c = λ others k.
    c.in_ok-give_back.ensures (drop (c.loop-claim.claim-index + 1) c.args.claims.now ++ others)
    (subst (λ l. HoldsClaims c.loop-claim.self (l ++ others)) (left_at c.args.claims.now c.loop-claim.claim-index c.claim-item.result c.loop-claim-test.true c.claim-item.is) (c.loop-claim.invariant others k))

pub returns : goal.returns
returns c = λ others k.
    subst (λ l. HoldsClaims c.loop-claim.self (l ++ others)) (drop_all c.loop-claim.claim-index c.args.claims.now c.loop-claim-test.false) (c.loop-claim.invariant others k)
