use Rattle.std.proofs.Common.{◌≡◌, refl, sym, ap, ◌∙◌, subst}
use Rattle.fx_model.specs.Machine.{Reasons, hold_all, holds, rules_found}
use Rattle.fx_model.specs.Walk.{Ended, Onward, onward}
use Rattle.fx_walk.specs.declared.notes.Seen.{Seen}
use Rattle.fx_walk.specs.declared.notes.WalkEnd.{WalkEnd}
use Rattle.fx_walk.specs.declared.notes.WalkEnd.TheVariants.{Accepted, Dropped, Left, Through}
use Rattle.fx_walk.specs.WalkEnds.{BreaksOff, here, ended_by, reasons_of}
use Rattle.fx_walk.proofs.Walks.{chain-start, chain-none, chain-zero, walk-step, walk-over}
use Rattle.fx_walk.proofs.Paths.{breaks_before, breaks_hit, breaks_within, step_follows, on_err, if_ok_then, on_err_then}
use Rattle.fx_walk.proofs.walk.+walk.Goals as goal

-- what a rule that did not come to its end gives is the answer
ends_early : {S : Type 0} (f : Reasons → S) (r : WalkEnd) (whole : Ended S) (go : Onward S) → ((s : Seen) → r ≡ Through s → ⊥) → whole ≡ onward (ended_by f r) go → ended_by f r ≡ whole
ends_early f (Accepted s) whole go h e = sym e
ends_early f (Dropped s) whole go h e = sym e
ends_early f (Left s) whole go h e = sym e
ends_early f (Through s) whole go h e = absurd (h s refl)

pub walk_chain-returns-in_default-clause-ok : goal.walk_chain-returns-in_default-clause-ok
walk_chain-returns-in_default-clause-ok g t c = sym (chain-none g.N.Notes.note _ _ _ _ _ _ (ap rules_found (sym c.in_default.ensures.found)))

pub walk_chain-returns-then-depth-eq0-clause-ok : goal.walk_chain-returns-then-depth-eq0-clause-ok
walk_chain-returns-then-depth-eq0-clause-ok g t c = sym (chain-zero g.N.Notes.note _ _ _ _ _ _ c.if-depth-eq0.true)

pub walk_chain-returns-clause-ok : goal.walk_chain-returns-clause-ok
walk_chain-returns-clause-ok g t c =
    if_ok_then c.walk_rules.result _ _ (λ end e. e ∙ sym (chain-start g.N.Notes.note _ _ _ _ _ _ c.as_slice.result.now c.if-depth-eq0.false (ap rules_found (sym c.in-Some.ensures.found) ∙ sym c.as_slice.ensures))) c.walk_rules.ensures.ok

pub walk_chain-returns-clause-err : goal.walk_chain-returns-clause-err
walk_chain-returns-clause-err g t c =
    on_err_then c.walk_rules.result _ _ (λ h. subst (λ e. BreaksOff g.N.Notes.State g.N.Notes.note (g.N.Notes.noted c.walk_rules.new.notes) (g.N.Notes.noted c.args.notes.now (reasons_of c.args.seen)) e) (sym (chain-start g.N.Notes.note _ _ _ _ _ _ c.as_slice.result.now c.if-depth-eq0.false (ap rules_found (sym c.in-Some.ensures.found) ∙ sym c.as_slice.ensures))) h) c.walk_rules.ensures.err

pub walk_rule-returns-in_err-now-clause-err : goal.walk_rule-returns-in_err-now-clause-err
walk_rule-returns-in_err-now-clause-err g t c =
    on_err c.from_residual.result _ (breaks_before g.N.Notes.note (holds c.args.tables.now.sets c.args.packet.now) _ _ _ _ _ _ _ _ (reasons_of c.args.seen) (c.in_err-now.ensures.err (reasons_of c.args.seen)))

pub walk_rule-returns-in_ok-now-clause-err : goal.walk_rule-returns-in_ok-now-clause-err
walk_rule-returns-in_ok-now-clause-err g t c =
    on_err_then c.follow.result _ _ (λ h. breaks_hit g.N.Notes.note (holds c.args.tables.now.sets c.args.packet.now) _ _ _ _ c.args.rule.now c.args.seen.mark _ _ _ (ap (hold_all (holds c.args.tables.now.sets c.args.packet.now) c.args.seen.mark) (sym c.as_slice.ensures) ∙ sym c.all_hold.ensures ∙ c.if-all_hold.true) c.in_ok-now.ensures.mark c.in_ok-now.ensures.ok h) c.follow.ensures.err

pub walk_rules-returns-in_err-other-clause-err : goal.walk_rules-returns-in_err-other-clause-err
walk_rules-returns-in_err-other-clause-err g t c =
    on_err c.from_residual.result _ (breaks_within g.N.Notes.note (holds c.args.tables.now.sets c.args.packet.now) _ _ _ _ _ _ _ _ _ _ c.loop-i.invariant.grown (walk-step _ _ _ _ _ _ _ _ _ _ _ c.loop-i.invariant.left c.loop-i-test.true c.index-rules-i.is refl) c.in_err-other.ensures.err)

pub walk_rules-returns-in_default : goal.walk_rules-returns-in_default
walk_rules-returns-in_default g t c = record {
  ok =
      ends_early (g.N.Notes.noted c.walk_rule.new.notes) c.in_ok-other.other _ _ c.in_default.not-Through
      (walk-step _ _ _ _ _ _ _ _ _ _ _ c.loop-i.invariant.left c.loop-i-test.true c.index-rules-i.is c.in_ok-other.ensures.ok);
  err = tt;
}

pub walk_rules-loop-i-preserved : goal.walk_rules-loop-i-preserved
walk_rules-loop-i-preserved g t c = record {
  left = walk-step _ _ _ _ _ _ _ _ _ _ _ c.loop-i.invariant.left c.loop-i-test.true c.index-rules-i.is (ap (ended_by (g.N.Notes.noted c.walk_rule.new.notes)) (sym c.in-Through.is) ∙ c.in_ok-other.ensures.ok);
  grown = step_follows g.N.Notes.note (holds c.args.tables.now.sets c.args.packet.now) _ _ _ _ _ _ _ _ _ (ap (ended_by (g.N.Notes.noted c.walk_rule.new.notes)) (sym c.in-Through.is) ∙ c.in_ok-other.ensures.ok) c.loop-i.invariant.grown;
}

pub walk_rules-returns-clause-ok : goal.walk_rules-returns-clause-ok
walk_rules-returns-clause-ok g t c = walk-over _ _ _ _ _ _ _ _ _ c.loop-i.invariant.left c.loop-i-test.false

pub walk_rules-loop-i-init : goal.walk_rules-loop-i-init
walk_rules-loop-i-init g t c = record { left = refl; grown = here refl }
