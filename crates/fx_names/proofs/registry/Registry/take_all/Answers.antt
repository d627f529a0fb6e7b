use Rattle.std.proofs.Common.{◌++◌, take, sym, ap, ◌∙◌, subst}
use Rattle.std.proofs.lemmas.List.{append-nil, take_all}
use Rattle.fx_names.specs.Claims.{first_clash}
use Rattle.fx_names.specs.Holding.{HoldsClaims}
use Rattle.fx_names.proofs.ClaimLists.{longer, first_clash-free}
use Rattle.fx_names.proofs.registry.Registry.take_all.Goals as goal

pub loop-claim-init : goal.loop-claim-init
loop-claim-init c = λ others k free.
    (subst (HoldsClaims c.args.self.now) (sym (append-nil others)) k, ap (λ l. first_clash l c.args.claims.now) (append-nil others) ∙ free)

pub loop-claim-preserved : goal.loop-claim-preserved
loop-claim-preserved c = λ others k free.
    let i = c.loop-claim.claim-index in
    let cs = c.args.claims.now in
    let here = c.loop-claim.invariant others k free in
    let next = first_clash-free others cs i c.claim-item.result c.loop-claim-test.true c.claim-item.is here.1 in
    (subst (HoldsClaims c.take.new.self) (sym (longer others cs i c.claim-item.result c.loop-claim-test.true c.claim-item.is)) (c.in_ok-take.ensures (others ++ take i cs) here.0 next.0), next.1)

pub returns : goal.returns
returns c = λ others k free.
    subst (λ l. HoldsClaims c.loop-claim.self (others ++ l)) (take_all c.loop-claim.claim-index c.args.claims.now c.loop-claim-test.false) (c.loop-claim.invariant others k free).0
