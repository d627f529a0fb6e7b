-- How a flush goes on by one message.
use Rattle.std.proofs.Common.{◌≡◌, ◌+◌, [], ◌++◌, length, map, true, false, Option, Some, None, is_some, Result, Ok, Err, refl, sym, ap, subst, ◌∙◌, arith}
use Rattle.std.specs.List.{concat}
use Rattle.std.specs.Prelude.{OnOk}
use Rattle.fx_model.specs.declared.view.View.{View}
use Rattle.fx_model.specs.Messages.{Change, flush, next_message, step, step_by, differences}
use Rattle.fx_laws.proofs.Flushes.{flush-none, flush-some}
use Rattle.fx_laws.proofs.Nearer.{no_message, step-nearer}
use Rattle.fx_model.specs.MessageTexts.{message_line}
use Rattle.fx_replay.specs.Output.{first_text, messages_text}

-- the first message's line and those of the rest
messages-first : (s w : View) (o : Option Change) → next_message s w ≡ o → messages_text None s w ≡ first_text o ++ messages_text None (step_by o s w) w
messages-first s w None is = refl
messages-first s w (Some c) is = ap (λ cs. concat (map message_line cs)) (flush-some s w c is)

pub messages_step : (s w : View) → messages_text None s w ≡ first_text (next_message s w) ++ messages_text None (step s w) w
messages_step s w = messages-first s w (next_message s w) refl

-- nothing is left where there is no message
pub messages_end : (s w : View) → is_some (next_message s w) ≡ false → messages_text None s w ≡ []
messages_end s w none = ended (next_message s w) refl none
  where
    ended : (o : Option Change) → next_message s w ≡ o → is_some o ≡ false → messages_text None s w ≡ []
    ended None is e = ap (λ cs. concat (map message_line cs)) (flush-none s w is)
    ended (Some c) is e = cc

pub reached : (s w : View) → is_some (next_message s w) ≡ false → s ≡ w
reached s w none = ended (next_message s w) refl none
  where
    ended : (o : Option Change) → next_message s w ≡ o → is_some o ≡ false → s ≡ w
    ended None is e = no_message s w is
    ended (Some c) is e = cc

pub none_left : (s w : View) → is_some (next_message s w) ≡ false → length (flush None s w).messages ≡ 0
none_left s w none = ended (next_message s w) refl none
  where
    ended : (o : Option Change) → next_message s w ≡ o → is_some o ≡ false → length (flush None s w).messages ≡ 0
    ended None is e = ap length (flush-none s w is)
    ended (Some c) is e = cc

-- a message leaves one fewer, and one difference fewer
pub one_fewer : (s w : View) → is_some (next_message s w) ≡ true → length (flush None s w).messages ≡ length (flush None (step s w) w).messages + 1
one_fewer s w there = more (next_message s w) refl there
  where
    more : (o : Option Change) → next_message s w ≡ o → is_some o ≡ true → length (flush None s w).messages ≡ length (flush None (step_by o s w) w).messages + 1
    more None is e = cc
    more (Some c) is e = omega (arith, ap length (flush-some s w c is))

pub nearer : (s w : View) → is_some (next_message s w) ≡ true → differences (step s w) w + 1 ≡ differences s w
nearer s w there = more (next_message s w) refl there
  where
    more : (o : Option Change) → next_message s w ≡ o → is_some o ≡ true → differences (step_by o s w) w + 1 ≡ differences s w
    more None is e = cc
    more (Some c) is e = step-nearer s w c is

-- where there is no message, nothing is told and the view stays
pub nothing_told : (s w : View) → is_some (next_message s w) ≡ false → first_text (next_message s w) ≡ []
nothing_told s w none = quiet (next_message s w) none
  where
    quiet : (o : Option Change) → is_some o ≡ false → first_text o ≡ []
    quiet None e = refl
    quiet (Some c) e = cc

pub stays : (s w : View) → is_some (next_message s w) ≡ false → step s w ≡ s
stays s w none = quiet (next_message s w) none
  where
    quiet : (o : Option Change) → is_some o ≡ false → step_by o s w ≡ s
    quiet None e = refl
    quiet (Some c) e = cc

-- what holds anyway holds after a call that succeeds
pub on_ok_always : {T E P : Type 0} (r : Result T E) → P → OnOk r P
on_ok_always (Ok x) holds = holds
on_ok_always (Err e) holds = tt

-- and what holds of a value holds of one that is the same after a call that succeeds
pub on_ok_subst : {A T E : Type 0} (P : A → Type 0) (a b : A) (r : Result T E) → OnOk r (b ≡ a) → P a → OnOk r (P b)
on_ok_subst P a b (Ok x) same holds = subst P (sym same) holds
on_ok_subst P a b (Err e) same holds = tt

pub on_ok_trans : {A T E : Type 0} (r : Result T E) (a b c : A) → OnOk r (a ≡ b) → b ≡ c → OnOk r (a ≡ c)
on_ok_trans (Ok x) a b c same e = same ∙ e
on_ok_trans (Err f) a b c same e = tt
