-- What a reader of whole texts gives.
use Rattle.std.specs.Prelude.{ℕ, List, Result, Ok, Err}
use Rattle.fx_selector.specs.Nodes.{tree}
use Rattle.fx_selector.specs.Places.{Means, IsSelectorFault}
use Rattle.fx_selector.specs.declared.node.Node.{Node}
use Rattle.fx_selector.specs.declared.fault.Fault.{Fault}
use Rattle.fx_selector.specs.declared.fault.Fault.TheVariants as fault
use Rattle.fx_selector.specs.declared.fault.SelectorFault.{SelectorFault}
use Rattle.fx_selector.specs.declared.fault.SelectorFault.TheVariants.{Unexpected, TooDeep, KeyTooLong}

-- a fault at a place
abbrev pub fault_at : Fault → ℕ → SelectorFault
fault_at fault.Unexpected at = Unexpected at
fault_at fault.TooDeep at = TooDeep at
fault_at fault.KeyTooLong at = KeyTooLong at

abbrev pub Parses : List ℕ → Result Node SelectorFault → Type 0
Parses text (Ok node) = Means text (tree node)
Parses text (Err f) = IsSelectorFault text f
