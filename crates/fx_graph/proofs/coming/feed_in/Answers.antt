use Rattle.std.proofs.Common.{refl, sym, ap, ◌∙◌, subst}
use Rattle.std.specs.FinMap as map
use Rattle.fx_graph.specs.Fed.{raised_by}
use Rattle.fx_graph.proofs.Changed.{index_after, index_own, active_after, members_after, beside_none, beside_after}
use Rattle.fx_graph.proofs.Walked.{IsRising, rising_first, rising_next, rising_last}
use Rattle.fx_graph.proofs.coming.feed_in.Goals as goal

pub loop-name-init : goal.loop-name-init
loop-name-init g c = record {
  rising = subst (IsRising c.args.uses.now (raised_by c.args.uses.now (map.entries c.args.notes.now) c.args.joined.now.index.selectors) c.args.joined.now.index.selectors)
      (sym (c.into_iter-name-iterator.ensures.into_iter_gives ∙ c.iter-name-items.ensures))
      (rising_first c.args.uses.now c.args.joined.now.index.selectors (map.entries c.args.notes.now));
  index = refl;
  active = ap (λ m. record c.args.joined.now.active { matched = m }) c.requires.joined.same;
  joined = c.requires.joined;
  inputs = ap (λ m. record c.args.members.now { matched = m }) c.requires.matched;
  members = c.requires.members;
  beside = beside_none c.args.sequencer.now;
  tests = λ first m it. it;
}

pub feed_one_in-requires-clause-matched : goal.feed_one_in-requires-clause-matched
feed_one_in-requires-clause-matched g c = ap (λ m. m.matched) c.loop-name.invariant.inputs

pub loop-name-preserved : goal.loop-name-preserved
loop-name-preserved g c =
    let here = subst (IsRising c.args.uses.now (raised_by c.args.uses.now (map.entries c.args.notes.now) c.args.joined.now.index.selectors) c.loop-name.joined.index.selectors) c.in-Some.ensures.steps c.loop-name.invariant.rising in
    let f = c.in_ok-feed_one_in.ensures in
    record {
      rising = rising_next c.args.uses.now _ c.loop-name.joined.index.selectors _ _ here _ c.feed_one_in.new.joined.index.selectors (sym c.get-set.ensures) (ap (λ n. n.selectors) f.index);
      index = index_own c.args.joined.now.index c.feed_one_in.new.joined.index _
          (index_after c.args.joined.now.index c.loop-name.joined.index c.feed_one_in.new.joined.index _ _ c.loop-name.invariant.index f.index);
      active = active_after c.args.joined.now.active c.loop-name.joined.active c.feed_one_in.new.joined.active _ _ c.loop-name.invariant.active f.active;
      joined = f.joined;
      inputs = members_after c.args.members.now c.loop-name.members c.feed_one_in.new.members _ _ c.loop-name.invariant.inputs f.inputs;
      members = f.members;
      beside = beside_after _ _ _ c.loop-name.invariant.beside f.beside;
      tests = λ first m it. f.tests first m (c.loop-name.invariant.tests first m it);
    }

pub returns-clause-index : goal.returns-clause-index
returns-clause-index g c =
    let none = subst (IsRising c.args.uses.now (raised_by c.args.uses.now (map.entries c.args.notes.now) c.args.joined.now.index.selectors) c.loop-name.joined.index.selectors) c.in-None.ensures.steps.0 c.loop-name.invariant.rising in
    c.loop-name.invariant.index ∙ ap (λ s. record c.args.joined.now.index { selectors = s }) (rising_last _ _ _ none)
