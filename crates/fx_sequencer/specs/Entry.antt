-- What is kept of a key: the value that was sent there, and the one that is wanted now.
use Rattle.std.specs.Prelude.{Bool, true, false, not, cond, Option, Some, None}
use Rattle.std.specs.Option.{option_eq}
use Rattle.fx_sequencer.specs.declared.entry.Entry.{Entry}
use Rattle.fx_sequencer.specs.declared.entry.Entry.TheVariants.{Both, Split}

-- the value that was sent
abbrev pub sent_of : {X : Type 0} → Entry X → Option X
sent_of (Both x) = Some x
sent_of (Split sent wanted) = sent

-- the value that is wanted
abbrev pub wanted_of : {X : Type 0} → Entry X → Option X
wanted_of (Both x) = Some x
wanted_of (Split sent wanted) = wanted

-- neither
abbrev pub no_entry : {X : Type 0} → Entry X
no_entry = Split None None

-- the sides differ
abbrev pub is_split : {X : Type 0} → Entry X → Bool
is_split (Both x) = false
is_split (Split sent wanted) = true

-- what is kept where a value is wanted: one value, if it is the one that was sent
abbrev pub entry_of : {X : Type 0} → (X → X → Bool) → Option X → X → Entry X
entry_of eq sent x = cond (option_eq eq sent (Some x)) (Both x) (Split sent (Some x))

-- what is kept where none is wanted any more
abbrev pub withdrawn : {X : Type 0} → Option X → Entry X
withdrawn sent = Split sent None

-- what is kept once the wanted value was sent
abbrev pub settled : {X : Type 0} → Option X → Entry X
settled None = Split None None
settled (Some x) = Both x

-- two values are kept only where they differ, and so none is kept of a key that has neither
abbrev pub is_exact : {X : Type 0} → (X → X → Bool) → Option (Entry X) → Bool
is_exact eq None = true
is_exact eq (Some (Both x)) = true
is_exact eq (Some (Split sent wanted)) = not (option_eq eq sent wanted)
