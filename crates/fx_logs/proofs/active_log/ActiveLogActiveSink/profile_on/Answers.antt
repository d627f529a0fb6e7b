use Rattle.std.proofs.Common.{Some, ap, ◌∙◌}
use Rattle.std.specs.Cmp.Lexicographic.{nat_list_cmp_total}
use Rattle.std.specs.FinMap as map
use Rattle.std.specs.Option.{option_copied}
use Rattle.fx_logs.proofs.ActiveChanges.{profile_changed, profile_kept}
use Rattle.fx_logs.proofs.active_log.ActiveLogActiveSink.profile_on.Goals as goal

pub invariant_of-self-in_err-profile_on : goal.invariant_of-self-in_err-profile_on
invariant_of-self-in_err-profile_on g c = profile_kept _ c.self.inside.logged _ c.self.invariant _ _ c.in_ok-insert.ensures.ok c.in_err-profile_on.ensures.err

pub invariant_of-self-2 : goal.invariant_of-self-2
invariant_of-self-2 g c = profile_changed _ c.self.inside.logged _ c.self.invariant _ c.args.name.now _ (Some (option_copied c.args.profile)) c.in_ok-clone.ensures.cases c.in_ok-insert.ensures.ok
    (λ q. ap (λ t. map.get t.profiles q) c.in_ok-profile_on.ensures.ok ∙ map.get-insert nat_list_cmp_total c.self.inside.logged.told.profiles c.args.name.now _ q)
    (ap (λ t. t.policies) c.in_ok-profile_on.ensures.ok) (ap (λ t. t.pairs) c.in_ok-profile_on.ensures.ok)
