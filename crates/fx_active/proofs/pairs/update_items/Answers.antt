use Rattle.std.proofs.Common.{refl, sym, ap, ◌∙◌, subst}
use Rattle.std.specs.Option.{option_copied}
use Rattle.fx_base.specs.Set as set
use Rattle.fx_model.specs.Pairs.{put}
use Rattle.fx_model.specs.declared.ids.ItemKey.{ItemKey}
use Rattle.fx_active.specs.Active.{applies_to}
use Rattle.fx_active.proofs.PairWalk.{IsHalfPaired, pairs_start, pairs_next, pairs_end, pair_was}
use Rattle.fx_active.proofs.pairs.update_items.Goals as goal

pub loop-item-init : goal.loop-item-init
loop-item-init g c =
    let E = c.args.held.now.endpoints in
    let M = c.args.held.now.matched in
    let id = c.args.id.now in
    let before = λ (i : ItemKey). applies_to E M (option_copied c.args.before) i in
    let after = λ (i : ItemKey). applies_to E M (option_copied c.args.after) i in
    let w = c.args.items.now in
    let s = g.S.ActiveSink.pairs c.args.sink.now in
    record {
      half = subst (λ es. IsHalfPaired (λ i. set.contains w i) after id s s w es)
          (sym (c.into_iter-item-iterator.ensures.into_iter_gives ∙ c.iter-item-items.ensures)) (pairs_start after id s w);
      policies = refl;
      profiles = refl;
    }

pub set_pair-requires : goal.set_pair-requires
set_pair-requires g c =
    let E = c.args.held.now.endpoints in
    let M = c.args.held.now.matched in
    let id = c.args.id.now in
    let before = λ (i : ItemKey). applies_to E M (option_copied c.args.before) i in
    let after = λ (i : ItemKey). applies_to E M (option_copied c.args.after) i in
    let w = c.args.items.now in
    let s = g.S.ActiveSink.pairs c.args.sink.now in
    let s' = g.S.ActiveSink.pairs c.loop-item.sink in
    let half = subst (λ es. IsHalfPaired (λ i. set.contains w i) after id s s' w es) c.in-Some.ensures.steps c.loop-item.invariant.half in
    pair_was after id s w s' _ _ half before (λ i h. c.requires i h) ∙ sym c.applies-stood.ensures

pub loop-item-preserved : goal.loop-item-preserved
loop-item-preserved g c =
    let E = c.args.held.now.endpoints in
    let M = c.args.held.now.matched in
    let id = c.args.id.now in
    let before = λ (i : ItemKey). applies_to E M (option_copied c.args.before) i in
    let after = λ (i : ItemKey). applies_to E M (option_copied c.args.after) i in
    let w = c.args.items.now in
    let s = g.S.ActiveSink.pairs c.args.sink.now in
    let s' = g.S.ActiveSink.pairs c.loop-item.sink in
    let half = subst (λ es. IsHalfPaired (λ i. set.contains w i) after id s s' w es) c.in-Some.ensures.steps c.loop-item.invariant.half in
    record {
      half = pairs_next after id s w s' _ _ half (g.S.ActiveSink.pairs c.set_pair.new.sink)
          (c.in_ok-set_pair.ensures.pairs ∙ ap (λ b. put s' (id, c.in-Some.item.now) b) c.applies-stands.ensures);
      policies = c.in_ok-set_pair.ensures.policies ∙ c.loop-item.invariant.policies;
      profiles = c.in_ok-set_pair.ensures.profiles ∙ c.loop-item.invariant.profiles;
    }

pub returns-clause-pairs : goal.returns-clause-pairs
returns-clause-pairs g c =
    let E = c.args.held.now.endpoints in
    let M = c.args.held.now.matched in
    let id = c.args.id.now in
    let before = λ (i : ItemKey). applies_to E M (option_copied c.args.before) i in
    let after = λ (i : ItemKey). applies_to E M (option_copied c.args.after) i in
    let w = c.args.items.now in
    let s = g.S.ActiveSink.pairs c.args.sink.now in
    let s' = g.S.ActiveSink.pairs c.loop-item.sink in
    pairs_end (λ i. set.contains w i) after id s s' w
    (subst (λ es. IsHalfPaired (λ i. set.contains w i) after id s s' w es) c.in-None.ensures.steps.0 c.loop-item.invariant.half)
