use Rattle.std.proofs.Common.{◌≡◌, ap, sym, ◌∙◌, subst, true, ℕ, List}
use Rattle.fx_base.specs.Set as set
use Rattle.fx_base.proofs.SetAt.{put_back}
use Rattle.fx_model.specs.SameIds.{copies_item}
use Rattle.fx_model.specs.declared.ids.ItemKey.{ItemKey}
use Rattle.fx_model.proofs.Orders.{pairs_total, exact_pair}
use Rattle.fx_logs.specs.declared.pair_log.PairChange.{PairChange}
use Rattle.fx_logs.specs.Run.{IsRun}
use Rattle.fx_logs.proofs.Runs.{pushed}
use Rattle.fx_logs.proofs.pair_log.PairLogMatchSink.matched.Goals as goal

pub invariant_of-self-in-Ok : goal.invariant_of-self-in-Ok
invariant_of-self-in-Ok g c =
    let change : PairChange = record { on = true; selector = c.in_ok-clone.field-0; item = c.in_ok-clone-2.field-0 } in
    pushed c.self.inside.changes c.push.new.self change g.K.PairStart.pairs_then c.self.inside.pairs c.insert.new.self (c.args.selector.now, c.args.item.now) c.self.invariant
    (λ j. (c.in_ok-clone.ensures.cases j, copies_item _ _ c.in_ok-clone-2.ensures.cases j))
    (ap (λ v. set.contains v.0 (c.args.selector.now, c.args.item.now)) c.self.view_is ∙ c.requires)
    c.in-Ok.ensures.ok
    (c.in_ok-insert.ensures.ok ∙ (λ j. set.insert c.self.inside.pairs (c.in_ok-clone-5.ensures.cases j, copies_item _ _ c.in_ok-clone-6.ensures.cases j)))

pub returns-in-Ok : goal.returns-in-Ok
returns-in-Ok g c = c.in_ok-insert.ensures.ok ∙ (λ j. set.insert (c.self.view_is j).0 (c.in_ok-clone-5.ensures.cases j, copies_item _ _ c.in_ok-clone-6.ensures.cases j))

pub invariant_of-self-in-Err : goal.invariant_of-self-in-Err
invariant_of-self-in-Err g c =
    let p : List ℕ × ItemKey = (c.args.selector.now, c.args.item.now) in
    let e : c.remove.new.self ≡ c.self.inside.pairs =
    c.remove.ensures
    ∙ (λ j. set.remove (c.in_ok-insert.ensures.ok j) (c.in_ok-clone-3.ensures.cases j, copies_item _ _ c.in_ok-clone-4.ensures.cases j))
    ∙ (λ j. set.remove (set.insert c.self.inside.pairs (c.in_ok-clone-5.ensures.cases j, copies_item _ _ c.in_ok-clone-6.ensures.cases j)) p)
    ∙ put_back pairs_total exact_pair c.self.inside.pairs p (ap (λ v. set.contains v.0 p) c.self.view_is ∙ c.requires) in
    subst (λ es. IsRun es g.K.PairStart.pairs_then c.remove.new.self) (sym c.in-Err.ensures.err) (subst (λ s. IsRun c.self.inside.changes g.K.PairStart.pairs_then s) (sym e) c.self.invariant)
