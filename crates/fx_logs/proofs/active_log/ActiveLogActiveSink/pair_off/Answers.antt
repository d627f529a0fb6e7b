use Rattle.std.proofs.Common.{false, refl, ap, ◌∙◌}
use Rattle.fx_base.specs.Set as set
use Rattle.fx_model.specs.SameIds.{copies_item, copies_policy_id}
use Rattle.fx_model.specs.declared.policy_pairs.PolicyPairChange.{PolicyPairChange}
use Rattle.fx_logs.proofs.ActiveChanges.{pairs_changed}
use Rattle.fx_logs.proofs.Runs.{policy_pushed}
use Rattle.fx_logs.proofs.active_log.ActiveLogActiveSink.pair_off.Goals as goal

pub invariant_of-self-2 : goal.invariant_of-self-2
invariant_of-self-2 g c =
    let change : PolicyPairChange = record { on = false; policy = c.in_ok-clone.field-0; item = c.in_ok-clone-2.field-0 } in
    pairs_changed g.K.ActiveStart.told_then c.self.inside.logged (record c.self.inside.logged.told { pairs = c.remove.new.self }) c.self.invariant c.push.new.self
    refl refl
    (policy_pushed c.self.inside.logged.pairs c.push.new.self change g.K.ActiveStart.told_then.pairs c.self.inside.logged.told.pairs c.remove.new.self (c.args.id.now, c.args.item.now) c.self.invariant.pairs
    (λ j. (copies_policy_id _ _ c.in_ok-clone.ensures.cases j, copies_item _ _ c.in_ok-clone-2.ensures.cases j))
    (ap (λ v. set.contains v.told.pairs (c.args.id.now, c.args.item.now)) c.self.view_is ∙ c.requires)
    c.in_ok-push.ensures.ok
    (c.remove.ensures ∙ (λ j. set.remove c.self.inside.logged.told.pairs (copies_policy_id _ _ c.in_ok-clone-3.ensures.cases j, copies_item _ _ c.in_ok-clone-4.ensures.cases j))))

pub returns-clause-pairs : goal.returns-clause-pairs
returns-clause-pairs g c = c.remove.ensures ∙ (λ j. set.remove (c.self.view_is j).told.pairs (copies_policy_id _ _ c.in_ok-clone-3.ensures.cases j, copies_item _ _ c.in_ok-clone-4.ensures.cases j))
