use Rattle.std.proofs.Common.{◌≡◌, List, refl, ap, ◌∙◌, subst}
use Rattle.fx_model.specs.declared.member.Member.{Member}
use Rattle.fx_model.specs.Messages.{Members}
use Rattle.fx_driver.specs.Members.{without_members}
use Rattle.felix_host.proofs.members.remove_members.Goals as goal

pub loop-member-init : goal.loop-member-init
loop-member-init c = rw (c.into_iter-member-iterator.ensures.into_iter_gives, c.walk-member-items.ensures) refl

pub loop-member-preserved : goal.loop-member-preserved
loop-member-preserved c =
    let i = subst (λ (xs : List Member). without_members c.loop-member.held xs ≡ without_members c.args.held.now c.args.members.now) c.in-Some.ensures.steps c.loop-member.invariant in
    ap (λ (s : Members). without_members s c.next.new.self) c.remove.ensures.removed ∙ i

pub returns : goal.returns
returns c =
    subst (λ (xs : List Member). without_members c.loop-member.held xs ≡ without_members c.args.held.now c.args.members.now) c.in-None.ensures.steps.0 c.loop-member.invariant
