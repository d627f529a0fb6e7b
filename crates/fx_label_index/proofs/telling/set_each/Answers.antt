use Rattle.std.proofs.Common.{sym, ◌∙◌, subst}
use Rattle.std.specs.Cmp.Lexicographic.{nat_list_cmp_total}
use Rattle.fx_base.proofs.KeyCases.{bytes_exact}
use Rattle.fx_base.proofs.Walk.{IsRest, IsRest-start, IsRest-next}
use Rattle.fx_label_index.proofs.Told.{HalfSet, set-start, set-stood, set-next}
use Rattle.fx_label_index.proofs.telling.set_each.Goals as goal

pub loop-text-init : goal.loop-text-init
loop-text-init g c =
    let e = c.into_iter-text-iterator.ensures.into_iter_gives ∙ c.iter-text-items.ensures in
    let old = g.S.MatchSink.pairs c.args.sink.now in
    record {
      rest = subst (λ es. IsRest c.args.texts.now es) (sym e) (IsRest-start nat_list_cmp_total c.args.texts.now);
      half = subst (λ es. HalfSet c.args.texts.now c.args.key.now c.args.stands.now old old es) (sym e)
          (set-start c.args.texts.now c.args.key.now c.args.stood.now c.args.stands.now old c.requires);
    }

pub set_pair-requires : goal.set_pair-requires
set_pair-requires g c =
    let old = g.S.MatchSink.pairs c.args.sink.now in
    let rest = subst (λ es. IsRest c.args.texts.now es) c.in-Some.ensures.steps c.loop-text.invariant.rest in
    let half = subst (λ es. HalfSet c.args.texts.now c.args.key.now c.args.stands.now old (g.S.MatchSink.pairs c.loop-text.sink) es) c.in-Some.ensures.steps c.loop-text.invariant.half in
    set-stood c.args.texts.now c.args.key.now c.args.stood.now c.args.stands.now old c.requires (g.S.MatchSink.pairs c.loop-text.sink) _ _ rest half ∙ sym c.contains.ensures

pub loop-text-preserved : goal.loop-text-preserved
loop-text-preserved g c =
    let old = g.S.MatchSink.pairs c.args.sink.now in
    let rest = subst (λ es. IsRest c.args.texts.now es) c.in-Some.ensures.steps c.loop-text.invariant.rest in
    let half = subst (λ es. HalfSet c.args.texts.now c.args.key.now c.args.stands.now old (g.S.MatchSink.pairs c.loop-text.sink) es) c.in-Some.ensures.steps c.loop-text.invariant.half in
    record {
      rest = IsRest-next nat_list_cmp_total bytes_exact c.args.texts.now _ _ rest;
      half = set-next c.args.texts.now c.args.key.now c.args.stood.now c.args.stands.now old c.requires (g.S.MatchSink.pairs c.loop-text.sink) (g.S.MatchSink.pairs c.set_pair.new.sink) _ _ c.contains-in-loop-text.result rest half c.contains-in-loop-text.ensures c.in_ok-set_pair.ensures;
    }
