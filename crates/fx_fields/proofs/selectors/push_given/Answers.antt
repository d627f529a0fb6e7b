use Rattle.std.proofs.Common.{◌≤◌, subst}
use Rattle.std.specs.Prelude.{IfSome}
use Rattle.std.proofs.lemmas.List.Elements.{All-same, All-push}
use Rattle.fx_selector.specs.Tree.{height}
use Rattle.fx_fields.proofs.selectors.push_given.Goals as goal

pub returns-in_ok-push-clause-shallow : goal.returns-in_ok-push-clause-shallow
returns-in_ok-push-clause-shallow c =
    let part : height c.in-Some.part ≤ 139 = subst (λ o. IfSome o (λ t. height t ≤ 139)) c.in-Some.is c.requires.part in
    All-same (λ t. height t ≤ 139) _ _ c.in_ok-push.ensures.items (All-push (λ t. height t ≤ 139) c.args.parts.now.items c.in-Some.part c.requires.parts part)
