-- What a run comes to that writes a text behind its last line.
use Rattle.std.proofs.Common.{◌≡◌, ◌++◌, ℕ, Bool, true, false, sym, ◌∙◌, ap, subst}
use Rattle.std.specs.Io.KnownBytes.{Appends}
use Rattle.fx_base.specs.Streams.{SourceState, SinkState, AppendsPrefix}
use Rattle.fx_base.proofs.Compose.{Appends-more, AppendsPrefix-after, AppendsPrefix-longer}
use Rattle.fx_lines.specs.Lines.{answerable}
use Rattle.fx_run.specs.Ran as runs
use Rattle.fx_program.specs.Meanings.{Meaning, Numbered, end_of, lines_text, line_text, next, numbered, open_output, unanswered}
use Rattle.fx_program.specs.Frame.{Ran, Stopped}

-- before the first line
pub first_state : {S : Type 0} (first : S) {lines : ℕ} {refused : Bool} → lines ≡ 0 → refused ≡ false → numbered first lines refused ≡ unanswered first
first_state first none whole = λ j. numbered first (none j) (whole j)

module _ {A S R : Type 0} (m : Meaning A S R) (first : S) (source_before source_now : SourceState) (sink_before sink_between sink_now : SinkState) (behind : Numbered S) (was : runs.Answered (next m) (line_text m) (unanswered first) source_before source_now sink_before sink_between behind) where
  -- the closing text was written
  pub ran_closed : (refused : Bool) → Appends sink_between.held sink_now.held (m.closing behind.kept) → m.Closed behind.kept → refused ≡ behind.refused → Ran m first source_before source_now sink_before sink_now refused
  ran_closed refused wrote closed is = record {
    input = was.input;
    gives = was.gives;
    end = was.end;
    all = was.all;
    output = subst (λ (s : Numbered S). Appends sink_before.held sink_now.held (lines_text m first was.input ++ m.closing s.kept)) was.state
        (Appends-more sink_before.held sink_between.held sink_now.held (lines_text m first was.input) (m.closing behind.kept) was.output wrote);
    status = is ∙ ap (λ (s : Numbered S). s.refused) was.state;
    closed = subst (λ (s : Numbered S). m.Closed s.kept) was.state closed;
  }

  -- a prefix of it was
  pub stopped_closing : AppendsPrefix sink_between.held sink_now.held (m.closing behind.kept) → Stopped m first source_before source_now sink_before sink_now
  stopped_closing stop = record {
    taken = was.input;
    gives = was.gives;
    output = subst (λ (e : Bool). AppendsPrefix sink_before.held sink_now.held (open_output m first e was.input)) (sym was.end)
        (subst (λ (s : Numbered S). AppendsPrefix sink_before.held sink_now.held (lines_text m first was.input ++ m.closing s.kept)) was.state
        (AppendsPrefix-after sink_before.held sink_between.held sink_now.held (lines_text m first was.input) (m.closing behind.kept) was.output stop));
  }

module _ {A S R : Type 0} (m : Meaning A S R) (first : S) where
  -- the run ended among the lines
  pub stopped_among : (source_before source_now : SourceState) (sink_before sink_now : SinkState) → runs.Stopped (next m) (line_text m) (unanswered first) source_before source_now sink_before sink_now → Stopped m first source_before source_now sink_before sink_now
  stopped_among source_before source_now sink_before sink_now was = record {
    taken = was.taken;
    gives = was.gives;
    output = by_end source_now.ended was.output;
  }
    where
      by_end : (e : Bool) → AppendsPrefix sink_before.held sink_now.held (lines_text m first (answerable e was.taken)) → AppendsPrefix sink_before.held sink_now.held (open_output m first e was.taken)
      by_end true stop = AppendsPrefix-longer sink_before.held sink_now.held (lines_text m first was.taken) (m.closing (end_of m first was.taken).kept) stop
      by_end false stop = stop
