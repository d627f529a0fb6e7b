-- What is asked of a flush. By iptables(8) and ipset(8) a rule leads to chains and names sets that are there; that
-- holds before and after each single operation of a flush, and in the end the tables are those of the resources and the
-- failsafe ports.
use Rattle.std.specs.Prelude.{◌≡◌, ℕ, List, [], ◌∷◌, ◌++◌, Result, Ok, Err}
use Rattle.fx_names.specs.Digests.{Digest}
use Rattle.fx_fields.specs.declared.refusal.Refusal.{Refusal}
use Rattle.fx_reconcile.specs.Goal.{AreAlike, AreAllowedInTurn, AreNextInTurn, after_all}
use Rattle.fx_reconcile.specs.Operations.{operations}
use Rattle.fx_run.specs.Run.{state_after}
use Rattle.fx_host_lines.specs.declared.command.HostCommand.{HostCommand}
use Rattle.fx_host_lines.specs.declared.command.HostCommand.TheVariants as command
use Rattle.felix_host.specs.Output.{State, start, next, answer_of, goal_of, text, flush_text}

-- ---- one flush

-- Each operation is the next one at its turn, and allowed there, between tables that name nothing that isn't there.
-- They end at tables that have the goal's sets and, tags aside, its chains; then tags are set, which writes nothing and
-- counts nothing.
pub record Flushes (s : State) (line : List ℕ) : Type 0 where
  pub turns : AreNextInTurn (operations s.tables (goal_of s)) s.tables (goal_of s)
  pub allowed : AreAllowedInTurn (operations s.tables (goal_of s)) s.tables (goal_of s)
  pub alike : AreAlike (after_all (operations s.tables (goal_of s)) s.tables (goal_of s)) (goal_of s)
  pub ends : (next s line).tables ≡ goal_of s
  pub output : text s line ≡ flush_text s.tables (goal_of s)

-- after any lines, each flush does so
abbrev pub FlushesLead : Digest → List ℕ → Type 0
FlushesLead dg node =
    (lines : List (List ℕ)) (line : List ℕ) → let s = state_after next (start dg node) lines in
    answer_of s line ≡ Ok command.Flush → Flushes s line

-- ---- behind a flush

-- an accepted update, or failsafe ports
abbrev pub IsChange : Result HostCommand Refusal → Type 0
IsChange (Ok command.Blank) = ⊥
IsChange (Ok command.Flush) = ⊥
IsChange (Ok command.Tables) = ⊥
IsChange (Ok (command.Update u)) = Unit {0}
IsChange (Ok (command.Failsafe f)) = Unit {0}
IsChange (Ok (command.Packet p)) = ⊥
IsChange (Err r) = ⊥

-- none of these lines is one
unfoldable pub HaveNoChange : State → List (List ℕ) → Type 0
HaveNoChange s [] = Unit {0}
HaveNoChange s (line ∷ lines) = (¬ IsChange (answer_of s line)) × HaveNoChange (next s line) lines

-- the tables are those of the resources and the failsafe ports
abbrev pub IsFlushed : State → Type 0
IsFlushed s = s.tables ≡ goal_of s

-- after any lines, a flush, and lines behind it of which none is a change, they are
abbrev pub TablesStay : Digest → List ℕ → Type 0
TablesStay dg node =
    (before : List (List ℕ)) (line : List ℕ) (behind : List (List ℕ))
    → let s = state_after next (start dg node) before in
    answer_of s line ≡ Ok command.Flush → HaveNoChange (next s line) behind
    → IsFlushed (state_after next (start dg node) (before ++ line ∷ behind))
