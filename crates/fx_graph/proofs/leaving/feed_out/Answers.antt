use Rattle.std.proofs.Common.{refl, sym, ap, ◌∙◌, subst}
use Rattle.std.specs.FinMap as map
use Rattle.fx_graph.specs.Fed.{lowered_by}
use Rattle.fx_graph.proofs.Changed.{index_after, index_own, active_after, members_after, beside_none, beside_after}
use Rattle.fx_graph.proofs.Walked.{IsFalling, falling_first, falling_next, falling_last}
use Rattle.fx_graph.proofs.leaving.feed_out.Goals as goal

pub loop-was-init : goal.loop-was-init
loop-was-init g c = record {
  falling = subst (IsFalling (lowered_by (map.entries c.args.notes.now) c.args.joined.now.index.selectors) c.args.joined.now.index.selectors)
      (sym (c.into_iter-was-iterator.ensures.into_iter_gives ∙ c.iter-was-items.ensures))
      (falling_first c.args.joined.now.index.selectors (map.entries c.args.notes.now));
  index = refl;
  active = ap (λ m. record c.args.joined.now.active { matched = m }) c.requires.joined.same;
  joined = c.requires.joined;
  inputs = ap (λ m. record c.args.members.now { matched = m }) c.requires.matched;
  members = c.requires.members;
  beside = beside_none c.args.sequencer.now;
  quiet = refl;
}

pub feed_one_out-requires-clause-matched : goal.feed_one_out-requires-clause-matched
feed_one_out-requires-clause-matched g c = ap (λ m. m.matched) c.loop-was.invariant.inputs

pub loop-was-preserved : goal.loop-was-preserved
loop-was-preserved g c =
    let here = subst (IsFalling (lowered_by (map.entries c.args.notes.now) c.args.joined.now.index.selectors) c.loop-was.joined.index.selectors) c.in-Some.ensures.steps c.loop-was.invariant.falling in
    let f = c.in_ok-feed_one_out.ensures in
    record {
      falling = falling_next _ c.loop-was.joined.index.selectors _ _ here c.feed_one_out.new.joined.index.selectors (ap (λ n. n.selectors) f.index);
      index = index_own c.args.joined.now.index c.feed_one_out.new.joined.index _
          (index_after c.args.joined.now.index c.loop-was.joined.index c.feed_one_out.new.joined.index _ _ c.loop-was.invariant.index f.index);
      active = active_after c.args.joined.now.active c.loop-was.joined.active c.feed_one_out.new.joined.active _ _ c.loop-was.invariant.active f.active;
      joined = f.joined;
      inputs = members_after c.args.members.now c.loop-was.members c.feed_one_out.new.members _ _ c.loop-was.invariant.inputs f.inputs;
      members = f.members;
      beside = beside_after _ _ _ c.loop-was.invariant.beside f.beside;
      quiet = f.quiet ∙ c.loop-was.invariant.quiet;
    }

pub returns-clause-index : goal.returns-clause-index
returns-clause-index g c =
    let none = subst (IsFalling (lowered_by (map.entries c.args.notes.now) c.args.joined.now.index.selectors) c.loop-was.joined.index.selectors) c.in-None.ensures.steps.0 c.loop-was.invariant.falling in
    c.loop-was.invariant.index ∙ ap (λ s. record c.args.joined.now.index { selectors = s }) (falling_last _ _ none)
