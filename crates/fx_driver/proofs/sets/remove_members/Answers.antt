use Rattle.std.proofs.Common.{List, length, refl, subst}
use Rattle.fx_model.specs.declared.member.Member.{Member}
use Rattle.fx_driver.proofs.Counts.{IsCounting, counting_begun, counting_next}
use Rattle.fx_driver.proofs.SetSteps.{IsRemoving, removing_next, removing_end}
use Rattle.fx_driver.proofs.sets.remove_members.Goals as goal

pub loop-member-init : goal.loop-member-init
loop-member-init g c =
    let first = c.args.tables.now in
    let all = c.args.members.now in
    let begun : IsRemoving first first c.args.name all all = record { there = c.requires.there; within = c.requires.within; whole = refl } in
    rw (c.into_iter-member-iterator.ensures.into_iter_gives, c.walk-member-items.ensures) (record { removing = begun; counting = counting_begun _ (length all) })

pub loop-member-preserved : goal.loop-member-preserved
loop-member-preserved g c =
    let i = subst (λ (xs : List Member). IsRemoving c.args.tables.now c.loop-member.tables c.args.name c.args.members.now xs) c.in-Some.ensures.steps c.loop-member.invariant.removing in
    let n = subst (λ (xs : List Member). IsCounting (g.O.Ticker.number c.args.operations.now) (g.O.Ticker.number c.loop-member.operations) (length c.args.members.now) (length xs)) c.in-Some.ensures.steps c.loop-member.invariant.counting in
    record {
      removing = removing_next c.args.tables.now c.loop-member.tables c.remove_member.new.self c.args.name c.args.members.now _ _ i c.remove_member.ensures.gone;
      counting = counting_next _ _ _ _ _ n c.remove_member.ensures.counted;
    }

pub remove_member-requires-clause-within : goal.remove_member-requires-clause-within
remove_member-requires-clause-within g c =
    let i = subst (λ (xs : List Member). IsRemoving c.args.tables.now c.loop-member.tables c.args.name c.args.members.now xs) c.in-Some.ensures.steps c.loop-member.invariant.removing in
    i.within.0

pub returns-clause-gone : goal.returns-clause-gone
returns-clause-gone g c =
    removing_end c.args.tables.now c.loop-member.tables c.args.name c.args.members.now
    (subst (λ (xs : List Member). IsRemoving c.args.tables.now c.loop-member.tables c.args.name c.args.members.now xs) c.in-None.ensures.steps.0 c.loop-member.invariant.removing)
