use Rattle.std.proofs.Common.{ap, ◌∙◌, false}
use Rattle.fx_base.specs.Set as set
use Rattle.fx_model.specs.SameIds.{copies_item}
use Rattle.fx_logs.specs.declared.pair_log.PairChange.{PairChange}
use Rattle.fx_logs.proofs.Runs.{pushed}
use Rattle.fx_logs.proofs.pair_log.PairLogMatchSink.unmatched.Goals as goal

pub invariant_of-self-2 : goal.invariant_of-self-2
invariant_of-self-2 g c =
    let change : PairChange = record { on = false; selector = c.in_ok-clone.field-0; item = c.in_ok-clone-2.field-0 } in
    pushed c.self.inside.changes c.push.new.self change g.K.PairStart.pairs_then c.self.inside.pairs c.remove.new.self (c.args.selector.now, c.args.item.now) c.self.invariant
    (λ j. (c.in_ok-clone.ensures.cases j, copies_item _ _ c.in_ok-clone-2.ensures.cases j))
    (ap (λ v. set.contains v.0 (c.args.selector.now, c.args.item.now)) c.self.view_is ∙ c.requires)
    c.in_ok-push.ensures.ok
    (c.remove.ensures ∙ (λ j. set.remove c.self.inside.pairs (c.in_ok-clone-3.ensures.cases j, copies_item _ _ c.in_ok-clone-4.ensures.cases j)))

pub returns : goal.returns
returns g c = c.remove.ensures ∙ (λ j. set.remove (c.self.view_is j).0 (c.in_ok-clone-3.ensures.cases j, copies_item _ _ c.in_ok-clone-4.ensures.cases j))
