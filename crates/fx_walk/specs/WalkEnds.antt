-- What the code's values of a walk mean, in the terms of the packet machine by iptables(8).
use Rattle.std.specs.Prelude.{◌≡◌, ℕ, List, map, Option, Some, None, option_copied}
use Rattle.fx_model.specs.declared.packet.Packet.{Packet}
use Rattle.fx_model.specs.Directions.{Direction, Ingress, Egress}
use Rattle.fx_model.specs.Tables.{ChainName, Tables}
use Rattle.fx_model.specs.declared.chain.ChainRule.{ChainRule}
use Rattle.fx_model.specs.Machine.{Notes, Reasons, Trace, holds}
use Rattle.fx_model.specs.Walk.{Onward, Ended, Accepted, Dropped, Left, Through, noted_in, over_chain}
use Rattle.fx_walk.specs.declared.outcome.Hop.{Hop}
use Rattle.fx_walk.specs.declared.notes.Direction.{Direction as WalkDirection}
use Rattle.fx_walk.specs.declared.notes.Direction.TheVariants as direction
use Rattle.fx_walk.specs.declared.notes.Seen.{Seen}
use Rattle.fx_walk.specs.declared.notes.WalkEnd.{WalkEnd}
use Rattle.fx_walk.specs.declared.notes.WalkEnd.TheVariants as walk_end

abbrev pub direction_of : Option WalkDirection → Option Direction
direction_of None = None
direction_of (Some direction.Egress) = Some Egress
direction_of (Some direction.Ingress) = Some Ingress

abbrev pub reasons_of : Seen → Reasons
reasons_of s = record { side = direction_of s.side; egress = option_copied s.egress; ingress = option_copied s.ingress }

-- how a walk ended, where `f` tells what was noted by the last reasons
abbrev pub ended_by : {S : Type 0} → (Reasons → S) → WalkEnd → Ended S
ended_by f (walk_end.Accepted s) = Accepted (f (reasons_of s))
ended_by f (walk_end.Dropped s) = Dropped (f (reasons_of s))
ended_by f (walk_end.Left s) = Left s.mark (f (reasons_of s))
ended_by f (walk_end.Through s) = Through s.mark (f (reasons_of s))

-- for the reasons alone
abbrev pub ended_of : WalkEnd → Ended Reasons
ended_of end = ended_by (λ s. s) end

-- the walk of a chain
abbrev pub chain_walk : {S : Type 0} → Notes S → Tables → Packet → ℕ → ChainName → Onward S
chain_walk note tables a depth = over_chain note (holds tables.sets a) tables.chains depth

-- ---- a walk that broke off

-- what may have been noted of some rules behind `s`
pub data Follows (S : Type 0) (note : Notes S) : S → S → Type 0 where
  here : {s t : S} → s ≡ t → Follows S note s t
  behind : {s t u : S} (c : ChainName) (p : ℕ) (r : ChainRule) → Follows S note s t → u ≡ note c p r t → Follows S note s u

-- it noted a first part of what the whole walk notes
pub record BreaksOff (S : Type 0) (note : Notes S) (f : Reasons → S) (before : S) (whole : Ended S) : Type 0 where
  pub reasons : Reasons
  pub begun : Follows S note before (f reasons)
  pub rest : Follows S note (f reasons) (noted_in whole)

-- ---- with the path

abbrev pub hops_of : List Hop → List (ChainName × ℕ)
hops_of path = map (λ h. (h.chain, h.place)) path

abbrev pub trace_of : List Hop → Reasons → Trace
trace_of path s = record { hops = hops_of path; reasons = s }
