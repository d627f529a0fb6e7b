-- What a pull writes.
use Rattle.std.proofs.Common.{◌≡◌, ◌⊎◌, inl, inr, ◌<◌, ◌≤◌, ℕ, List, [], Bool, true, false, Option, Some, None, is_some, Result, Ok, Err, sym, ap, subst, arith}
use Rattle.std.proofs.lemmas.List.{append-nil}
use Rattle.std.specs.Io.KnownBytes.{Appends}
use Rattle.fx_base.specs.Streams.{SinkState, AppendsPrefix, Rose}
use Rattle.fx_model.specs.Messages.{Change}
use Rattle.fx_model.specs.MessageTexts.{message_line}
use Rattle.fx_replay.specs.Output.{first_text}
use Rattle.fx_run.specs.declared.run_fault.RunFault.TheVariants as fault
use Rattle.fx_run.proofs.Writings.{Writes-none}
use Rattle.fx_run.specs.Writing.{HasTorn, HasWritten, Writes}

whole-prefix : (a b : Option (List ℕ)) (bytes : List ℕ) → Appends a b bytes → AppendsPrefix a b bytes
whole-prefix a b bytes p = (bytes, [], sym (append-nil bytes), p)

-- a message was there, or none
pub sent-found : (o : Option Change) (c : Change) → o ≡ Some c → true ≡ is_some o
sent-found o c is = sym (ap is_some is)

pub quiet-found : (o : Option Change) → o ≡ None → false ≡ is_some o
quiet-found o is = sym (ap is_some is)

module _ (before now : SinkState) (o : Option Change) where
  -- a message was written
  pub sent-writes : (c : Change) → o ≡ Some c → HasWritten before now (message_line c) → Writes {T = Bool} before now (first_text o) (Ok true)
  sent-writes c is wrote = record {
    whole = rw is wrote.whole;
    prefix = tt;
    later = wrote.later;
    cause = tt;
  }

  torn-prefix : (c : Change) → o ≡ Some c → HasTorn before now (message_line c) → AppendsPrefix before.held now.held (first_text o)
  torn-prefix c is wrote = rw is wrote.prefix

  written-prefix : (c : Change) → o ≡ Some c → HasWritten before now (message_line c) → AppendsPrefix before.held now.held (first_text o)
  written-prefix c is wrote = rw is (whole-prefix before.held now.held (message_line c) wrote.whole)

  -- a message could not be written
  pub torn-writes : (c : Change) → o ≡ Some c → HasTorn before now (message_line c) → Rose before.faults now.faults → Writes {T = Bool} before now (first_text o) (Err fault.WriteFault)
  torn-writes c is wrote rose = record { whole = tt; prefix = torn-prefix c is wrote; later = wrote.later; cause = rose }

  -- Memory ran out, and the out took the message or a part of it. Of either something else is known.
  module _ {Name : Type 0} (c : Change) (is : o ≡ Some c) where
    pub memory-writes : (HasWritten before now (message_line c) × Name) ⊎ (HasTorn before now (message_line c) × Name) → Writes {T = Bool} before now (first_text o) (Err fault.Memory)
    memory-writes (inl (wrote, name)) = record { whole = tt; prefix = written-prefix c is wrote; later = wrote.later; cause = tt }
    memory-writes (inr (wrote, name)) = record { whole = tt; prefix = torn-prefix c is wrote; later = wrote.later; cause = tt }

    pub memory-name : (HasWritten before now (message_line c) × Name) ⊎ (HasTorn before now (message_line c) × Name) → Name
    memory-name (inl (wrote, name)) = name
    memory-name (inr (wrote, name)) = name

-- an agent whose memory never ran out
pub no_resync : {A : Type 0} (failed : Bool) → failed ≡ false → failed ≡ true → A
no_resync failed still was = cc

-- nothing was written
pub quiet-writes : (before now : SinkState) (o : Option Change) → o ≡ None → now ≡ before → Writes {T = Bool} before now (first_text o) (Ok false)
quiet-writes before now o is same = subst (λ (s : SinkState). Writes {T = Bool} before s (first_text o) (Ok false)) (sym same) (Writes-none before (first_text o) false (ap first_text is))
