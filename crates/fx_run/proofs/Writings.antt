-- Calls that write, one after another.
use Rattle.std.proofs.Common.{◌≡◌, ◌<◌, ◌≤◌, ◌+◌, ℕ, List, [], ◌∷◌, ◌++◌, length, get_or, take, drop, None, Result, Ok, Err, refl, sym, ◌∙◌, ap, subst, arith, take-append-drop}
use Rattle.std.specs.List.{concat}
use Rattle.std.proofs.lemmas.List.{drop_more, take_more, append-nil}
use Rattle.std.proofs.lemmas.List.Folds.{concat-append}
use Rattle.std.specs.Io.KnownBytes.{Appends}
use Rattle.fx_base.specs.Streams.{SinkState, AppendsPrefix}
use Rattle.fx_base.proofs.Compose.{AppendsPrefix-none, AppendsPrefix-after, AppendsPrefix-longer, Appends-more, Appends-none}
use Rattle.fx_run.specs.declared.run_fault.RunFault.{RunFault}
use Rattle.fx_run.specs.declared.run_fault.RunFault.TheVariants as fault
use Rattle.fx_run.specs.Writing.{IsWritingFault, Writes}

-- a cause goes on where the counts lie further apart
cause_wider : (a b c : SinkState) (f : RunFault) → a.faults ≤ b.faults → IsWritingFault b c f → IsWritingFault a c f
cause_wider a b c fault.Memory le h = tt
cause_wider a b c fault.WriteFault le h = omega (arith, h)
cause_wider a b c fault.ReadFault le h = h
cause_wider a b c fault.InputTooLong le h = h

-- a sink that only counts, as a contract sees it
abbrev counting : SinkState
counting = record { held = None; faults = 0 }

-- it never fails, so memory alone can be wanting
pub only_memory : (f : RunFault) → IsWritingFault counting counting f → f ≡ fault.Memory
only_memory fault.Memory h = refl
only_memory fault.WriteFault h = absurd (omega (arith, h))
only_memory fault.ReadFault h = absurd h
only_memory fault.InputTooLong h = absurd h

module _ {T : Type 0} where
  -- nothing was written, for want of memory
  pub Writes-nothing : (s : SinkState) (text : List ℕ) → Writes {T = T} s s text (Err fault.Memory)
  Writes-nothing s text = record { whole = tt; prefix = AppendsPrefix-none s.held text; later = omega arith; cause = tt }

  -- all of it was written, which is nothing
  pub Writes-none : (s : SinkState) (text : List ℕ) (x : T) → text ≡ [] → Writes s s text (Ok x)
  Writes-none s text x none = record {
    whole = subst (Appends s.held s.held) (sym none) (Appends-none s.held);
    prefix = tt;
    later = omega arith;
    cause = tt;
  }

  -- a first part was written whole, and a call for the second part stopped
  pub Writes-stopped : (a b c : SinkState) (first second rest : List ℕ) (f : RunFault) → Appends a.held b.held first → a.faults ≤ b.faults → AppendsPrefix b.held c.held second → b.faults ≤ c.faults → IsWritingFault b c f
      → Writes {T = T} a c (first ++ (second ++ rest)) (Err f)
  Writes-stopped a b c first second rest f wrote le prefix le' cause = record {
    whole = tt;
    prefix = AppendsPrefix-after a.held b.held c.held first (second ++ rest) wrote (AppendsPrefix-longer b.held c.held second rest prefix);
    later = omega arith;
    cause = cause_wider a b c f le cause;
  }

-- ---- lists of lines

pub concat-take : (lines : List (List ℕ)) (i : ℕ) (line : List ℕ) → i < length lines → line ≡ get_or lines i line → concat (take (i + 1) lines) ≡ concat (take i lines) ++ line
concat-take lines i line small is =
    ap concat (take_more lines i line small ∙ ap (λ (x : List ℕ). take i lines ++ x ∷ []) (sym is))
    ∙ concat-append (take i lines) (line ∷ [])
    ∙ ap (λ (l : List ℕ). concat (take i lines) ++ l) (append-nil line)

pub concat-split : (lines : List (List ℕ)) (i : ℕ) (line : List ℕ) → i < length lines → line ≡ get_or lines i line → concat lines ≡ concat (take i lines) ++ (line ++ concat (drop (i + 1) lines))
concat-split lines i line small is =
    ap concat (sym (take-append-drop i lines) ∙ ap (λ (l : List (List ℕ)). take i lines ++ l) (drop_more lines i line small ∙ ap (λ (x : List ℕ). x ∷ drop (i + 1) lines) (sym is)))
    ∙ concat-append (take i lines) (line ∷ drop (i + 1) lines)

-- ---- a text in two parts

module _ {T : Type 0} where
  -- a call for the first part stopped
  pub Writes-prefix : (a b : SinkState) (first rest : List ℕ) (f : RunFault) → AppendsPrefix a.held b.held first → a.faults ≤ b.faults → IsWritingFault a b f → Writes {T = T} a b (first ++ rest) (Err f)
  Writes-prefix a b first rest f prefix le cause = record { whole = tt; prefix = AppendsPrefix-longer a.held b.held first rest prefix; later = le; cause = cause }

  -- the first part was written whole, and then the second was or wasn't
  pub Writes-then : (a b c : SinkState) (first second : List ℕ) (r : Result T RunFault) → Appends a.held b.held first → a.faults ≤ b.faults → Writes b c second r → Writes a c (first ++ second) r
  Writes-then a b c first second (Ok x) wrote le then = record {
    whole = Appends-more a.held b.held c.held first second wrote then.whole;
    prefix = tt;
    later = omega (arith, then.later);
    cause = tt;
  }
  Writes-then a b c first second (Err f) wrote le then = record {
    whole = tt;
    prefix = AppendsPrefix-after a.held b.held c.held first second wrote then.prefix;
    later = omega (arith, then.later);
    cause = cause_wider a b c f le then.cause;
  }

-- ---- a call that answers something else than the one that wrote for it

module _ {T U : Type 0} {before now : SinkState} {text : List ℕ} where
  pub Writes-answered : {x : T} {y : U} → Writes before now text (Ok x) → Writes before now text (Ok y)
  Writes-answered wrote = record { whole = wrote.whole; prefix = tt; later = wrote.later; cause = tt }

  pub Writes-failed : {f : RunFault} → Writes {T = T} before now text (Err f) → Writes {T = U} before now text (Err f)
  Writes-failed wrote = record { whole = tt; prefix = wrote.prefix; later = wrote.later; cause = wrote.cause }
