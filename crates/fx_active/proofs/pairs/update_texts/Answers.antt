use Rattle.std.proofs.Common.{refl, sym, ◌∙◌, subst}
use Rattle.fx_active.proofs.TextWalk.{IsHalfTold, told_start, told_next, told_end, pair_next, policy_next}
use Rattle.fx_active.proofs.pairs.update_texts.Goals as goal

pub loop-text-init : goal.loop-text-init
loop-text-init g c =
    let P = c.args.held.now.policies in
    let E = c.args.held.now.endpoints in
    let M = c.args.held.now.matched in
    let item = c.args.item.now in
    let added = c.args.added in
    let w = c.args.texts.now in
    let m = g.S.ActiveSink.policies c.args.sink.now in
    let s = g.S.ActiveSink.pairs c.args.sink.now in
    record {
      half = subst (λ es. IsHalfTold P E M item added m s w m s es)
          (sym (c.into_iter-text-iterator.ensures.into_iter_gives ∙ c.iter-text-items.ensures)) (told_start E M item w c.requires.texts P added m s);
      profiles = refl;
    }

pub update_with_text-requires-clause-pairs : goal.update_with_text-requires-clause-pairs
update_with_text-requires-clause-pairs g c =
    let P = c.args.held.now.policies in
    let E = c.args.held.now.endpoints in
    let M = c.args.held.now.matched in
    let item = c.args.item.now in
    let added = c.args.added in
    let w = c.args.texts.now in
    let m = g.S.ActiveSink.policies c.args.sink.now in
    let s = g.S.ActiveSink.pairs c.args.sink.now in
    let m' = g.S.ActiveSink.policies c.loop-text.sink in
    let s' = g.S.ActiveSink.pairs c.loop-text.sink in
    let half = subst (λ es. IsHalfTold P E M item added m s w m' s' es) c.in-Some.ensures.steps c.loop-text.invariant.half in
    pair_next E M item w c.requires.texts P added m s m' s' _ _ half c.requires.pairs

pub update_with_text-requires-clause-policies : goal.update_with_text-requires-clause-policies
update_with_text-requires-clause-policies g c =
    let P = c.args.held.now.policies in
    let E = c.args.held.now.endpoints in
    let M = c.args.held.now.matched in
    let item = c.args.item.now in
    let added = c.args.added in
    let w = c.args.texts.now in
    let m = g.S.ActiveSink.policies c.args.sink.now in
    let s = g.S.ActiveSink.pairs c.args.sink.now in
    let m' = g.S.ActiveSink.policies c.loop-text.sink in
    let s' = g.S.ActiveSink.pairs c.loop-text.sink in
    let half = subst (λ es. IsHalfTold P E M item added m s w m' s' es) c.in-Some.ensures.steps c.loop-text.invariant.half in
    policy_next E M item w c.requires.texts P added m s m' s' _ _ half c.holds_somewhere-others.result c.holds_somewhere-others.ensures c.requires.policies

pub loop-text-preserved : goal.loop-text-preserved
loop-text-preserved g c =
    let P = c.args.held.now.policies in
    let E = c.args.held.now.endpoints in
    let M = c.args.held.now.matched in
    let item = c.args.item.now in
    let added = c.args.added in
    let w = c.args.texts.now in
    let m = g.S.ActiveSink.policies c.args.sink.now in
    let s = g.S.ActiveSink.pairs c.args.sink.now in
    let m' = g.S.ActiveSink.policies c.loop-text.sink in
    let s' = g.S.ActiveSink.pairs c.loop-text.sink in
    let half = subst (λ es. IsHalfTold P E M item added m s w m' s' es) c.in-Some.ensures.steps c.loop-text.invariant.half in
    record {
      half = told_next E M item w c.requires.texts P added m s m' s' _ _ half c.holds_somewhere-others.result c.holds_somewhere-others.ensures
          (g.S.ActiveSink.policies c.update_with_text.new.sink) (g.S.ActiveSink.pairs c.update_with_text.new.sink) c.in_ok-update_with_text.ensures.updated;
      profiles = c.in_ok-update_with_text.ensures.profiles ∙ c.loop-text.invariant.profiles;
    }

pub returns-clause-updated : goal.returns-clause-updated
returns-clause-updated g c =
    let P = c.args.held.now.policies in
    let E = c.args.held.now.endpoints in
    let M = c.args.held.now.matched in
    let item = c.args.item.now in
    let added = c.args.added in
    let w = c.args.texts.now in
    let m = g.S.ActiveSink.policies c.args.sink.now in
    let s = g.S.ActiveSink.pairs c.args.sink.now in
    let m' = g.S.ActiveSink.policies c.loop-text.sink in
    let s' = g.S.ActiveSink.pairs c.loop-text.sink in
    told_end E M item w c.requires.texts P added m s m' s'
    (subst (λ es. IsHalfTold P E M item added m s w m' s' es) c.in-None.ensures.steps.0 c.loop-text.invariant.half)
