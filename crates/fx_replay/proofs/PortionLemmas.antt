-- How a flush with a limit goes on by one message.
use Rattle.std.proofs.Common.{◌≡◌, ◌↔◌, ◌+◌, ◌-◌, ◌<◌, ℕ, zero, suc, List, [], ◌∷◌, ◌++◌, length, map, Bool, true, false, Option, Some, None, is_some, refl, sym, ap, subst, ◌∙◌, arith}
use Rattle.std.proofs.lemmas.Bool.{false≢true}
use Rattle.std.proofs.lemmas.List.{append-nil}
use Rattle.std.specs.List.{concat}
use Rattle.fx_model.specs.declared.view.View.{View}
use Rattle.fx_model.specs.Messages.{Change, flush, messages, messages_from, next_message, sent_after, step_at, step_by}
use Rattle.fx_model.specs.MessageTexts.{message_line}
use Rattle.fx_laws.proofs.Nearer.{no_message, nothing_to_send}
use Rattle.fx_replay.specs.Output.{first_text, messages_text}
use Rattle.fx_replay.specs.Portions.{next_within}

-- ---- what may be sent

-- a message is there only where one may be sent
pub allowed : (left : ℕ) (s w : View) → is_some (next_within left s w) ≡ true → 0 < left
allowed zero s w there = absurd (false≢true there)
allowed (suc n) s w there = omega arith

-- it is the next one then
pub within_next : (left : ℕ) (s w : View) → 0 < left → next_within left s w ≡ next_message s w
within_next zero s w more = absurd (omega arith)
within_next (suc n) s w more = refl

pub within_none : (left : ℕ) (s w : View) → left ≡ 0 → next_within left s w ≡ None
within_none zero s w none = refl
within_none (suc n) s w none = absurd (omega arith)

-- ---- one message more

one_more : (n m : ℕ) → n + 1 ≡ m → suc n ≡ m
one_more n m e = omega arith

first_allowed : (n : ℕ) (s w : View) → messages (suc n) s w ≡ messages_from (λ after. messages n after w) (next_within (suc n) s w) s w
unfolding messages
first_allowed n s w = refl

module _ (left rest : ℕ) (s w : View) (fewer : rest + 1 ≡ left) where
  -- it comes first, and those that may follow it come after it
  unrolled : messages left s w ≡ messages_from (λ after. messages rest after w) (next_within left s w) s w
  unrolled =
      subst (λ (n : ℕ). messages n s w ≡ messages_from (λ after. messages rest after w) (next_within n s w) s w) (one_more rest left fewer) (first_allowed rest s w)

  some_first : (c : Change) → next_within left s w ≡ Some c → (flush (Some left) s w).messages ≡ c ∷ (flush (Some rest) (step_at c s w) w).messages
  some_first c is = unrolled ∙ ap (λ (o : Option Change). messages_from (λ after. messages rest after w) o s w) is

  text_at : (o : Option Change) → next_within left s w ≡ o → is_some o ≡ true → messages_text (Some left) s w ≡ first_text o ++ messages_text (Some rest) (step_by o s w) w
  text_at None is there = absurd (false≢true there)
  text_at (Some c) is there = ap (λ cs. concat (map message_line cs)) (some_first c is)

  length_at : (o : Option Change) → next_within left s w ≡ o → is_some o ≡ true → length (flush (Some left) s w).messages ≡ length (flush (Some rest) (step_by o s w) w).messages + 1
  length_at None is there = absurd (false≢true there)
  length_at (Some c) is there = omega (arith, ap length (some_first c is))

  ends_at : (o : Option Change) → next_within left s w ≡ o → is_some o ≡ true → (flush (Some left) s w).ends ≡ (flush (Some rest) (step_by o s w) w).ends
  unfolding sent_after
  ends_at None is there = absurd (false≢true there)
  ends_at (Some c) is there = ap (λ cs. sent_after cs s w) (some_first c is)

  -- the same of a view that was moved by it, and a wanted one that stayed
  module _ (there : is_some (next_within left s w) ≡ true) (t v : View) (moved : t ≡ step_by (next_within left s w) s w) (same : v ≡ w) where
    pub portion_text : first_text (next_within left s w) ++ messages_text (Some rest) t v ≡ messages_text (Some left) s w
    portion_text =
        (λ j. first_text (next_within left s w) ++ messages_text (Some rest) (moved j) (same j))
        ∙ sym (text_at (next_within left s w) refl there)

    pub portion_length : length (flush (Some rest) t v).messages + 1 ≡ length (flush (Some left) s w).messages
    portion_length =
        (λ j. length (flush (Some rest) (moved j) (same j)).messages + 1)
        ∙ sym (length_at (next_within left s w) refl there)

    pub portion_ends : (flush (Some rest) t v).ends ≡ (flush (Some left) s w).ends
    portion_ends = (λ j. (flush (Some rest) (moved j) (same j)).ends) ∙ sym (ends_at (next_within left s w) refl there)

-- ---- no message more

none_sent : (left : ℕ) (s w : View) → next_within left s w ≡ None → messages left s w ≡ []
unfolding messages
none_sent zero s w none = refl
none_sent (suc n) s w none = ap (λ (o : Option Change). messages_from (λ after. messages n after w) o s w) none

stays_there : (limit : ℕ) (s w : View) → next_within limit s w ≡ None → (flush (Some limit) s w).ends ≡ s
unfolding sent_after
stays_there limit s w none = ap (λ cs. sent_after cs s w) (none_sent limit s w none)

none_there : (o : Option Change) → is_some o ≡ false → o ≡ None
none_there None none = refl
none_there (Some c) none = absurd (false≢true (sym none))

module _ (left : ℕ) (s w : View) (none : is_some (next_within left s w) ≡ false) where
  absent : next_within left s w ≡ None
  absent = none_there (next_within left s w) none

  pub portion_silent : first_text (next_within left s w) ≡ messages_text (Some left) s w
  portion_silent = ap first_text absent ∙ sym (ap (λ cs. concat (map message_line cs)) (none_sent left s w absent))

  pub portion_empty : length (flush (Some left) s w).messages ≡ 0
  portion_empty = ap length (none_sent left s w absent)

  pub portion_stays : step_by (next_within left s w) s w ≡ (flush (Some left) s w).ends
  portion_stays = ap (λ (o : Option Change). step_by o s w) absent ∙ sym (stays_there left s w absent)

-- in either case the next message's line comes first
pub first_then : (left : ℕ) (s w : View) → (rest : List ℕ) × (first_text (next_within left s w) ++ rest ≡ messages_text (Some left) s w)
first_then left s w = by_next (is_some (next_within left s w)) refl
  where
    by_next : (b : Bool) → is_some (next_within left s w) ≡ b → (rest : List ℕ) × (first_text (next_within left s w) ++ rest ≡ messages_text (Some left) s w)
    by_next true there =
        let fewer : (left - 1) + 1 ≡ left = omega (arith, allowed left s w there) in (
          messages_text (Some (left - 1)) (step_by (next_within left s w) s w) w,
          portion_text left (left - 1) s w fewer there (step_by (next_within left s w) s w) w refl refl,
        )
    by_next false none = ([], append-nil (first_text (next_within left s w)) ∙ portion_silent left s w none)

-- where all was sent a flush sends nothing
none_within : (left : ℕ) (s w : View) → next_message s w ≡ None → next_within left s w ≡ None
none_within zero s w none = refl
none_within (suc n) s w none = none

pub nothing_left : (limit : ℕ) (s w : View) → s ≡ w → (flush (Some limit) s w).ends ≡ w
nothing_left limit s w all =
    let none : next_message s w ≡ None = ap (λ (v : View). next_message v w) all ∙ nothing_to_send w in
    stays_there limit s w (none_within limit s w none) ∙ all

-- ---- whether there is more

apart : (s w : View) (c : Change) → next_message s w ≡ Some c → ¬ (s ≡ w)
apart s w c is same = let e : Some c ≡ None = sym is ∙ ap (λ (v : View). next_message v w) same ∙ nothing_to_send w in cc

-- that a message is pending says that there is a next one, and that none is says that there is none
pub pending_is : (told failed : Bool) (s w : View) → ((told ≡ true) ↔ ((failed ≡ false) × (¬ (s ≡ w)))) → failed ≡ false → told ≡ is_some (next_message s w)
pending_is told failed s w says ready = by_next (next_message s w) refl told says
  where
    by_next : (o : Option Change) → next_message s w ≡ o → (b : Bool) → ((b ≡ true) ↔ ((failed ≡ false) × (¬ (s ≡ w)))) → b ≡ is_some o
    by_next None is true says = absurd ((says.0 refl).1 (no_message s w is))
    by_next None is false says = refl
    by_next (Some c) is true says = refl
    by_next (Some c) is false says = absurd (false≢true (says.1 (ready, apart s w c is)))
