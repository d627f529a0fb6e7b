use Rattle.std.proofs.Common.{◌≡◌, Bool, ℕ, List, ◌∙◌, ap, subst}
use Rattle.std.proofs.lemmas.Result.{on_ok_weaker}
use Rattle.fx_model.specs.Tables.{Tables}
use Rattle.fx_model.specs.ViewTables.{tables_of}
use Rattle.fx_run.specs.Writing.{Writes}
use Rattle.fx_restart_lines.specs.Finding.{found_in_sync}
use Rattle.fx_restart_lines.specs.declared.finding.Finding.{Finding}
use Rattle.felix_restore.specs.Output.{State, closing, goal_of, restored_text}
use Rattle.felix_restore.specs.Restored.{IsLedFrom}
use Rattle.felix_restore.specs.Standing.{state_of}
use Rattle.felix_restore.proofs.restore.Restore.finish.Goals as goal

pub returns-clause-writes : goal.returns-clause-writes
unfolding closing
returns-clause-writes g c =
    let was = c.args.self.now in
    let s : State = state_of g.R.DigestRule.digest_of was.agent was.finding in
    let end : c.tables-goal.result.now ≡ goal_of s = c.tables-goal.ensures.sent c.in_ok-send_all.ensures.ready ∙ ap tables_of c.in_ok-send_all.ensures.reached in
    let mark : was.in_sync ≡ s.resources.in_sync = c.requires.ready.mark in
    subst (λ (t : List ℕ). Writes {T = Unit {0}} (g.K.Sink.state c.args.sink.now) (g.K.Sink.state c.restore.new.sink) t c.restore.result)
    (λ j. restored_text (found_in_sync (mark j) was.finding) (end j)) c.restore.ensures.writes

-- the same of the goal by the resources, and of the mark by which they are in sync
module _ (was : Finding) (now : Finding) (mark sync : Bool) (same : mark ≡ sync) (table goal : Tables) (end : table ≡ goal) where
  led_by : IsLedFrom (found_in_sync mark was) table was now → IsLedFrom (found_in_sync sync was) goal was now
  led_by led =
      subst (λ (b : Bool). IsLedFrom (found_in_sync b was) goal was now) same
      (subst (λ (t : Tables). IsLedFrom (found_in_sync mark was) t was now) end led)

pub returns-clause-restored : goal.returns-clause-restored
returns-clause-restored g c =
    let was = c.args.self.now in
    let s : State = state_of g.R.DigestRule.digest_of was.agent was.finding in
    let end : c.tables-goal.result.now ≡ goal_of s = c.tables-goal.ensures.sent c.in_ok-send_all.ensures.ready ∙ ap tables_of c.in_ok-send_all.ensures.reached in
    let mark : was.in_sync ≡ s.resources.in_sync = c.requires.ready.mark in
    on_ok_weaker c.restore.result (λ led. record {
      after = c.restore.new.finding;
      led = led_by was.finding c.restore.new.finding was.in_sync s.resources.in_sync mark c.tables-goal.result.now (goal_of s) end led;
    }) c.restore.ensures.led

pub returns-clause-led : goal.returns-clause-led
returns-clause-led g c =
    let was = c.args.self.now in
    let s : State = state_of g.R.DigestRule.digest_of was.agent was.finding in
    let end : c.tables-goal.result.now ≡ goal_of s = c.tables-goal.ensures.sent c.in_ok-send_all.ensures.ready ∙ ap tables_of c.in_ok-send_all.ensures.reached in
    let mark : was.in_sync ≡ s.resources.in_sync = c.requires.ready.mark in
    on_ok_weaker c.restore.result (led_by was.finding c.restore.new.finding was.in_sync s.resources.in_sync mark c.tables-goal.result.now (goal_of s) end) c.restore.ensures.led
