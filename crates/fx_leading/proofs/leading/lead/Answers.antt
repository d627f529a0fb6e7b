use Rattle.std.proofs.Common.{◌≡◌, ◌+◌, List, ◌∷◌, [], ◌++◌, drop, take, inl, inr, refl, sym, ap, ◌∙◌, subst, arith}
use Rattle.std.specs.Io.KnownBytes.{Appends}
use Rattle.std.proofs.lemmas.Result.{err_from_is_err_and}
use Rattle.fx_base.proofs.Compose.{Appends-more, Appends-none, AppendsPrefix-none}
use Rattle.fx_base.specs.Streams.{AppendsPrefix}
use Rattle.fx_model.specs.Tables.{Tables}
use Rattle.std.proofs.lemmas.List.{append-nil, take-append-drop}
use Rattle.fx_reconcile.specs.Goal.{after_all}
use Rattle.fx_reconcile.specs.declared.op.Op.{Op}
use Rattle.fx_reconcile.specs.Operations.{operations, applied}
use Rattle.fx_reconcile.proofs.Led.{led, left_at_first, left_after, next_of_rest, item_behind}
use Rattle.fx_run.proofs.Writings.{Writes-stopped}
use Rattle.fx_leading.specs.Lines.{op_line, op_lines}
use Rattle.fx_leading.proofs.Walk.{line_more, line_next, lines_end, one_more, lines_more, after_more}
use Rattle.fx_leading.proofs.leading.lead.Goals as goal

pub loop-op-init : goal.loop-op-init
loop-op-init g c =
    let items : List Op = c.as_slice-op-items.result.now in
    let all : items ≡ operations c.args.now.now c.args.goal.now = c.as_slice-op-items.ensures ∙ c.in_ok-ops.ensures.all in
    record {
      left = left_at_first c.args.now.now c.args.goal.now items all;
      output = ([], Appends-none (g.K.Sink.state c.args.sink.now).held, ap (op_lines c.args.goal.now) all);
      at = refl;
      lines = Appends-none (g.K.Sink.state c.args.sink.now).held;
      later = omega arith;
    }

pub do_next-requires : goal.do_next-requires
do_next-requires g c =
    let items : List Op = c.as_slice-op-items.result.now in
    let i = c.loop-op.op-index in
    record {
      next = next_of_rest c.loop-op.now c.args.goal.now c.op-item.result (drop i items) (drop (i + 1) items)
          (item_behind items i c.op-item.result c.loop-op-test.true c.op-item.is) c.loop-op.invariant.left;
    }

pub loop-op-preserved : goal.loop-op-preserved
loop-op-preserved g c =
    let items : List Op = c.as_slice-op-items.result.now in
    let i = c.loop-op.op-index in
    let is : drop i items ≡ c.op-item.result ∷ drop (i + 1) items = item_behind items i c.op-item.result c.loop-op-test.true c.op-item.is in
    let wrote = c.loop-op.invariant.output in
    let line = op_line c.args.goal.now c.op-item.result in
    record {
      left = left_after c.loop-op.now c.args.goal.now c.do_next.new.now c.op-item.result (drop i items) (drop (i + 1) items) is c.in_ok-do_next.ensures.done c.loop-op.invariant.left;
      output = (
        wrote.0 ++ line,
        Appends-more _ _ _ wrote.0 line wrote.1 c.in_ok-do_next.ensures.writes.whole,
        line_more c.args.goal.now wrote.0 _ (drop i items) (drop (i + 1) items) c.op-item.result is wrote.2,
      );
      at = c.in_ok-do_next.ensures.done ∙ ap (λ (t : Tables). applied c.op-item.result t c.args.goal.now) c.loop-op.invariant.at
          ∙ after_more (take i items) c.op-item.result c.args.now.now c.args.goal.now
          ∙ ap (λ (os : List Op). after_all os c.args.now.now c.args.goal.now) (sym (one_more items i c.op-item.result c.loop-op-test.true c.op-item.is));
      lines = subst (Appends (g.K.Sink.state c.args.sink.now).held (g.K.Sink.state c.do_next.new.sink).held)
          (lines_more items i c.op-item.result c.loop-op-test.true c.op-item.is c.args.goal.now)
          (Appends-more _ _ _ (op_lines c.args.goal.now (take i items)) line c.loop-op.invariant.lines c.in_ok-do_next.ensures.writes.whole);
      later = omega (arith, c.loop-op.invariant.later, c.in_ok-do_next.ensures.writes.later);
    }

pub returns-in_err-do_next-clause-writes : goal.returns-in_err-do_next-clause-writes
returns-in_err-do_next-clause-writes g c =
    let p = err_from_is_err_and c.from_residual-in_err-do_next.result c.from_residual-in_err-do_next.ensures.1 in
    let items : List Op = c.as_slice-op-items.result.now in
    let i = c.loop-op.op-index in
    let is : drop i items ≡ c.op-item.result ∷ drop (i + 1) items = item_behind items i c.op-item.result c.loop-op-test.true c.op-item.is in
    let wrote = c.loop-op.invariant.output in
    let stop = c.in_err-do_next.ensures.writes in
    let line = op_line c.args.goal.now c.op-item.result in
    let rest = op_lines c.args.goal.now (drop (i + 1) items) in
    let whole : wrote.0 ++ (line ++ rest) ≡ op_lines c.args.goal.now (operations c.args.now.now c.args.goal.now) =
    line_next c.args.goal.now wrote.0 _ (drop i items) (drop (i + 1) items) c.op-item.result is wrote.2 in
    rw (p.1, p.2, ← whole) (Writes-stopped (g.K.Sink.state c.args.sink.now) (g.K.Sink.state c.loop-op.sink) _ wrote.0 line rest _ wrote.1 c.loop-op.invariant.later stop.prefix stop.later stop.cause)

pub returns-in_err-ops-clause-stopped : goal.returns-in_err-ops-clause-stopped
returns-in_err-ops-clause-stopped g c =
    let p = err_from_is_err_and c.from_residual.result c.from_residual.ensures.1 in
    rw (p.1) (record {
      done = [];
      left = operations c.args.now.now c.args.goal.now;
      all = refl;
      middle = (g.K.Sink.state c.args.sink.now).held;
      lines = Appends-none (g.K.Sink.state c.args.sink.now).held;
      part = AppendsPrefix-none (g.K.Sink.state c.args.sink.now).held _;
      tables = inl (refl, refl);
    })

pub returns-in_err-do_next-clause-stopped : goal.returns-in_err-do_next-clause-stopped
returns-in_err-do_next-clause-stopped g c =
    let p = err_from_is_err_and c.from_residual-in_err-do_next.result c.from_residual-in_err-do_next.ensures.1 in
    let items : List Op = c.as_slice-op-items.result.now in
    let i = c.loop-op.op-index in
    let start = c.args.now.now in
    let end = c.args.goal.now in
    let op = c.op-item.result in
    let next : take 1 (drop i items) ≡ op ∷ [] = ap (take 1) (item_behind items i op c.loop-op-test.true c.op-item.is) in
    let all : items ≡ operations start end = c.as_slice-op-items.ensures ∙ c.in_ok-ops.ensures.all in
    rw (p.1) (record {
      done = take i items;
      left = drop i items;
      all = sym all ∙ sym (take-append-drop i items);
      middle = (g.K.Sink.state c.loop-op.sink).held;
      lines = c.loop-op.invariant.lines;
      part = subst (AppendsPrefix (g.K.Sink.state c.loop-op.sink).held (g.K.Sink.state c.do_next.new.sink).held)
          (sym (ap (op_lines end) next ∙ append-nil (op_line end op))) c.in_err-do_next.ensures.writes.prefix;
      tables = elim c.in_err-do_next.ensures.stopped [
        | inl same ↦ inl (same.0 ∙ c.loop-op.invariant.at, same.1)
        | inr more ↦ inr (more ∙ ap (λ (t : Tables). applied op t end) c.loop-op.invariant.at ∙ after_more (take i items) op start end
            ∙ ap (λ (os : List Op). after_all (take i items ++ os) start end) (sym next))
      ];
    })

pub returns-clause-led : goal.returns-clause-led
returns-clause-led g c =
    led c.loop-op.now c.args.goal.now c.as_slice-op-items.result.now c.loop-op.op-index c.loop-op-test.false c.loop-op.invariant.left

pub returns-clause-allowed : goal.returns-clause-allowed
returns-clause-allowed g c = c.in_ok-ops.ensures.allowed

pub returns-clause-writes : goal.returns-clause-writes
returns-clause-writes g c =
    let wrote = c.loop-op.invariant.output in
    let whole = lines_end c.args.goal.now wrote.0 _ c.as_slice-op-items.result.now c.loop-op.op-index c.loop-op-test.false wrote.2 in
    record {
      whole = subst (Appends (g.K.Sink.state c.args.sink.now).held (g.K.Sink.state c.loop-op.sink).held) whole wrote.1;
      prefix = tt;
      later = c.loop-op.invariant.later;
      cause = tt;
    }
