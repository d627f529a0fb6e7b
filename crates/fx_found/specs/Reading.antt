-- What code answers of a text: what is read of it, or that nothing is, unless memory is wanted.
use Rattle.std.specs.Prelude.{◌≡◌, ◌⊎◌, Option, Some, None, Result, Ok, Err}
use Rattle.fx_found.specs.declared.unread.Unread.{Unread}
use Rattle.fx_found.specs.declared.unread.Unread.TheVariants.{Memory}

-- what is read is seen by a view
abbrev pub ReadsAs : {A X : Type 0} → (X → A) → Option A → Result X Unread → Type 0
ReadsAs view read (Ok x) = read ≡ Some (view x)
ReadsAs view read (Err why) = (why ≡ Memory) ⊎ (read ≡ None)

abbrev pub Reads : {A : Type 0} → Option A → Result A Unread → Type 0
Reads read result = ReadsAs (λ x. x) read result
