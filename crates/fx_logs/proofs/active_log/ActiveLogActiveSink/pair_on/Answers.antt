use Rattle.std.proofs.Common.{◌≡◌, true, ap, sym, ◌∙◌, subst}
use Rattle.fx_base.specs.Set as set
use Rattle.fx_base.proofs.SetAt.{put_back}
use Rattle.fx_model.specs.SameIds.{copies_item, copies_policy_id}
use Rattle.fx_model.specs.declared.ids.ItemKey.{ItemKey}
use Rattle.fx_model.specs.declared.ids.PolicyId.{PolicyId}
use Rattle.fx_model.proofs.Orders.{policy_pairs_total, exact_policy_pair}
use Rattle.fx_model.specs.PairRuns.{IsPairRun}
use Rattle.fx_model.specs.declared.policy_pairs.PolicyPairChange.{PolicyPairChange}
use Rattle.fx_logs.proofs.ActiveChanges.{pairs_changed}
use Rattle.fx_logs.proofs.Runs.{policy_pushed}
use Rattle.fx_logs.proofs.active_log.ActiveLogActiveSink.pair_on.Goals as goal

pub invariant_of-self-in-Ok : goal.invariant_of-self-in-Ok
invariant_of-self-in-Ok g c =
    let change : PolicyPairChange = record { on = true; policy = c.in_ok-clone.field-0; item = c.in_ok-clone-2.field-0 } in
    pairs_changed g.K.ActiveStart.told_then c.self.inside.logged c.pair_on.new.self c.self.invariant c.push.new.self
    (ap (λ t. t.policies) c.in_ok-pair_on.ensures.ok) (ap (λ t. t.profiles) c.in_ok-pair_on.ensures.ok)
    (policy_pushed c.self.inside.logged.pairs c.push.new.self change g.K.ActiveStart.told_then.pairs c.self.inside.logged.told.pairs c.pair_on.new.self.pairs (c.args.id.now, c.args.item.now) c.self.invariant.pairs
    (λ j. (copies_policy_id _ _ c.in_ok-clone.ensures.cases j, copies_item _ _ c.in_ok-clone-2.ensures.cases j))
    (ap (λ v. set.contains v.told.pairs (c.args.id.now, c.args.item.now)) c.self.view_is ∙ c.requires)
    c.in-Ok.ensures.ok
    (ap (λ t. t.pairs) c.in_ok-pair_on.ensures.ok))

pub invariant_of-self-in-Err : goal.invariant_of-self-in-Err
invariant_of-self-in-Err g c =
    let p : PolicyId × ItemKey = (c.args.id.now, c.args.item.now) in
    let e : c.remove.new.self ≡ c.self.inside.logged.told.pairs =
    c.remove.ensures
    ∙ (λ j. set.remove (ap (λ t. t.pairs) c.in_ok-pair_on.ensures.ok j) (copies_policy_id _ _ c.in_ok-clone-3.ensures.cases j, copies_item _ _ c.in_ok-clone-4.ensures.cases j))
    ∙ put_back policy_pairs_total exact_policy_pair c.self.inside.logged.told.pairs p (ap (λ v. set.contains v.told.pairs p) c.self.view_is ∙ c.requires) in
    pairs_changed g.K.ActiveStart.told_then c.self.inside.logged (record c.pair_on.new.self { pairs = c.remove.new.self }) c.self.invariant c.push.new.self
    (ap (λ t. t.policies) c.in_ok-pair_on.ensures.ok) (ap (λ t. t.profiles) c.in_ok-pair_on.ensures.ok)
    (subst (λ es. IsPairRun es g.K.ActiveStart.told_then.pairs c.remove.new.self) (sym c.in-Err.ensures.err) (subst (IsPairRun c.self.inside.logged.pairs g.K.ActiveStart.told_then.pairs) (sym e) c.self.invariant.pairs))

pub returns-in-Ok-clause-pairs : goal.returns-in-Ok-clause-pairs
returns-in-Ok-clause-pairs g c = ap (λ t. t.pairs) c.in_ok-pair_on.ensures.ok ∙ ap (λ v. set.insert v.told.pairs (c.args.id.now, c.args.item.now)) c.self.view_is
