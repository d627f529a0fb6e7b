use Rattle.std.proofs.Common.{◌≡◌, true, Some, ap, sym, subst, ◌∙◌}
use Rattle.std.specs.Option.{option_copied}
use Rattle.fx_base.proofs.Cases.{same_some}
use Rattle.fx_resolver.specs.declared.known.KnownPolicy.{KnownPolicy}
use Rattle.fx_resolver.proofs.SameKnown.{same_known, known_itself}
use Rattle.fx_resolver.proofs.known.is_known.Goals as goal

pub returns-in-Some : goal.returns-in-Some
returns-in-Some c = (
  (λ h. ap option_copied c.in-Some.is ∙ ap Some (same_known c.in-Some.before.now c.args.policy.now (sym c.eq.ensures ∙ h))),
  (λ h. c.eq.ensures ∙ known_itself c.in-Some.before.now c.args.policy.now (same_some _ _ (sym (ap option_copied c.in-Some.is) ∙ h))),
)
