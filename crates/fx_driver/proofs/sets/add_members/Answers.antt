use Rattle.std.proofs.Common.{List, length, refl, subst}
use Rattle.fx_model.specs.declared.member.Member.{Member}
use Rattle.fx_driver.proofs.Counts.{IsCounting, counting_begun, counting_next}
use Rattle.fx_driver.proofs.SetSteps.{IsAdding, adding_next, adding_end}
use Rattle.fx_driver.proofs.sets.add_members.Goals as goal

pub loop-member-init : goal.loop-member-init
loop-member-init g c =
    let first = c.args.tables.now in
    let all = c.args.members.now in
    let begun : IsAdding first first c.args.name all all = record { there = c.requires.there; absent = c.requires.absent; fit = c.requires.fit; whole = refl; chains = refl } in
    rw (c.into_iter-member-iterator.ensures.into_iter_gives, c.walk-member-items.ensures) (record { adding = begun; counting = counting_begun _ (length all) })

pub loop-member-preserved : goal.loop-member-preserved
loop-member-preserved g c =
    let i = subst (λ (xs : List Member). IsAdding c.args.tables.now c.loop-member.tables c.args.name c.args.members.now xs) c.in-Some.ensures.steps c.loop-member.invariant.adding in
    let n = subst (λ (xs : List Member). IsCounting (g.O.Ticker.number c.args.operations.now) (g.O.Ticker.number c.loop-member.operations) (length c.args.members.now) (length xs)) c.in-Some.ensures.steps c.loop-member.invariant.counting in
    record {
      adding = adding_next c.args.tables.now c.loop-member.tables c.add_member.new.self c.args.name c.args.members.now _ _ i c.in_ok-add_member.ensures.ok;
      counting = counting_next _ _ _ _ _ n c.in_ok-add_member.ensures.counted;
    }

pub add_member-requires-clause-absent : goal.add_member-requires-clause-absent
add_member-requires-clause-absent g c =
    let i = subst (λ (xs : List Member). IsAdding c.args.tables.now c.loop-member.tables c.args.name c.args.members.now xs) c.in-Some.ensures.steps c.loop-member.invariant.adding in
    i.absent.0

pub add_member-requires-clause-fits : goal.add_member-requires-clause-fits
add_member-requires-clause-fits g c =
    let i = subst (λ (xs : List Member). IsAdding c.args.tables.now c.loop-member.tables c.args.name c.args.members.now xs) c.in-Some.ensures.steps c.loop-member.invariant.adding in
    i.fit.0

pub returns-clause-ok : goal.returns-clause-ok
returns-clause-ok g c =
    adding_end c.args.tables.now c.loop-member.tables c.args.name c.args.members.now
    (subst (λ (xs : List Member). IsAdding c.args.tables.now c.loop-member.tables c.args.name c.args.members.now xs) c.in-None.ensures.steps.0 c.loop-member.invariant.adding)
