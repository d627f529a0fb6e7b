use Rattle.std.proofs.Common.{sym, ◌∙◌, subst}
use Rattle.std.specs.FinMap as map
use Rattle.fx_base.specs.Ticks.{IsTicked}
use Rattle.fx_base.proofs.Walk.{IsRest, IsRest-start, IsRest-next}
use Rattle.fx_model.proofs.Orders.{item_total, exact_item}
use Rattle.fx_label_index.specs.Indexed.{at_key}
use Rattle.fx_label_index.specs.Matched.{labels_of}
use Rattle.fx_label_index.specs.Tested.{comes, either, at_labels}
use Rattle.fx_label_index.proofs.Gaining.{gained_still, gained_then}
use Rattle.fx_label_index.proofs.Labelling.{HalfLabelled, in_walk, effective_there, labelled-start, labelled-head, labelled-next}
use Rattle.fx_label_index.proofs.Walked.{IsWalked, walked-start, walked-next, walked-end}
use Rattle.fx_label_index.proofs.state.relabel_each.Goals as goal

pub loop-key-init : goal.loop-key-init
loop-key-init g c =
    let e = c.into_iter-key-iterator.ensures.into_iter_gives ∙ c.iter-key-items.ensures in
    let n = c.args.inputs.now in
    let old = c.args.indexes.now.labels in
    let start = g.T.Ticker.number c.args.ticks.now in
    record {
      kept = c.requires.kept;
      told = c.requires.told;
      rest = subst (λ es. IsRest c.args.items.now es) (sym e) (IsRest-start item_total c.args.items.now);
      half = subst (λ es. HalfLabelled old (map.get n.parents) n.items old es) (sym e) (labelled-start old (map.get n.parents) n.items c.args.items.now c.requires.others);
      walked = subst (λ es. IsWalked (at_key comes n old) (at_key either n old) es (map.entries c.args.items.now) start start) (sym e) (walked-start (at_key comes n old) (at_key either n old) (map.entries c.args.items.now) start);
      gained = gained_still (g.S.MatchSink.pairs c.args.sink.now) start;
    }

pub relabel_item-requires-clause-there : goal.relabel_item-requires-clause-there
relabel_item-requires-clause-there g c =
    c.requires.there _ (in_walk c.args.items.now _ _ (subst (λ es. IsRest c.args.items.now es) c.in-Some.ensures.steps c.loop-key.invariant.rest))

pub loop-key-preserved : goal.loop-key-preserved
loop-key-preserved g c =
    let n = c.args.inputs.now in
    let old = c.args.indexes.now.labels in
    let start = g.T.Ticker.number c.args.ticks.now in
    let now = g.T.Ticker.number c.loop-key.ticks in
    let next = g.T.Ticker.number c.relabel_item.new.ticks in
    let key = c.in-Some.key.now in
    let rest = subst (λ es. IsRest c.args.items.now es) c.in-Some.ensures.steps c.loop-key.invariant.rest in
    let half = subst (λ es. HalfLabelled old (map.get n.parents) n.items c.loop-key.indexes.labels es) c.in-Some.ensures.steps c.loop-key.invariant.half in
    let walked = subst (λ es. IsWalked (at_key comes n old) (at_key either n old) es (map.entries c.args.items.now) start now) c.in-Some.ensures.steps c.loop-key.invariant.walked in
    let after = effective_there (map.get n.parents) (map.get n.items key) (c.requires.there _ (in_walk c.args.items.now _ _ rest)) in
    let stood = labelled-head old (map.get n.parents) n.items c.args.items.now c.loop-key.indexes.labels _ _ half in
    let it = subst (λ p. IsTicked (at_labels comes n.selectors p (labels_of (map.get n.parents) (map.get n.items key))) (at_labels either n.selectors p (labels_of (map.get n.parents) (map.get n.items key))) now next) stood c.in_ok-relabel_item.ensures.tests in
    record {
      kept = c.in_ok-relabel_item.ensures.kept;
      told = c.in_ok-relabel_item.ensures.told;
      rest = IsRest-next item_total exact_item c.args.items.now _ _ rest;
      half = labelled-next old (map.get n.parents) n.items c.args.items.now c.loop-key.indexes.labels c.relabel_item.new.indexes.labels _ _ after.0 rest half after.1 (c.in_ok-relabel_item.ensures.labels after.0 after.1);
      walked = walked-next (at_key comes n old) (at_key either n old) (map.entries c.args.items.now) start _ _ now next walked it;
      gained = gained_then (g.S.MatchSink.pairs c.args.sink.now) (g.S.MatchSink.pairs c.loop-key.sink) (g.S.MatchSink.pairs c.relabel_item.new.sink) start now next c.loop-key.invariant.gained c.in_ok-relabel_item.ensures.gained;
    }

pub returns-clause-labels : goal.returns-clause-labels
returns-clause-labels g c = λ i.
    let n = c.args.inputs.now in
    (subst (λ es. HalfLabelled c.args.indexes.now.labels (map.get n.parents) n.items c.loop-key.indexes.labels es) c.in-None.ensures.steps.0 c.loop-key.invariant.half).at i tt

pub returns-clause-tests : goal.returns-clause-tests
returns-clause-tests g c =
    let n = c.args.inputs.now in
    let old = c.args.indexes.now.labels in
    let start = g.T.Ticker.number c.args.ticks.now in
    walked-end (at_key comes n old) (at_key either n old) (map.entries c.args.items.now) start (g.T.Ticker.number c.loop-key.ticks)
    (subst (λ es. IsWalked (at_key comes n old) (at_key either n old) es (map.entries c.args.items.now) start (g.T.Ticker.number c.loop-key.ticks)) c.in-None.ensures.steps.0 c.loop-key.invariant.walked)
