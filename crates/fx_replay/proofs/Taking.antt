-- An update or a batch is made, or the line is refused.
use Rattle.std.proofs.Common.{◌≡◌, ℕ, List, [], Option, None, Some, Ok, refl, sym, ap, subst}
use Rattle.fx_base.specs.Ticks.{IsTicked}
use Rattle.fx_base.specs.declared.counts.Counter.{Counter}
use Rattle.fx_base.proofs.TickLemmas.{IsTicked-none}
use Rattle.fx_names.specs.Claims.{Clash}
use Rattle.fx_model.specs.declared.resources.Resources.{Resources}
use Rattle.fx_model.specs.declared.resources.Update.{Update}
use Rattle.fx_fields.specs.declared.refusal.Refusal.TheVariants.{Taken}
use Rattle.fx_lines.specs.declared.commands.Command.{Command}
use Rattle.fx_lines.specs.declared.commands.Command.TheVariants as command
use Rattle.fx_replay.specs.declared.tally.Tally.{Tally}
use Rattle.fx_replay.specs.Tallies.{tally_after}
use Rattle.fx_program.specs.Answers.{accepted_text, refusal_in, settled}
use Rattle.fx_replay.specs.Output.{State, unless_taken, accepted, command_text, flushed_in}
use Rattle.fx_replay.specs.Tests.{HasTested}

module _ (s : State) (o : Option Clash) (asked : Command) where
  -- nothing clashes
  pub free-settled : o ≡ None → settled accepted s (unless_taken o asked) ≡ accepted s asked
  free-settled free = ap (λ (p : Option Clash). settled accepted s (unless_taken p asked)) free

  pub free-told : o ≡ None → None ≡ refusal_in (unless_taken o asked)
  free-told free = sym (ap (λ (p : Option Clash). refusal_in (unless_taken p asked)) free)

  -- a name is taken
  pub taken-settled : (c : Clash) → o ≡ Some c → settled accepted s (unless_taken o asked) ≡ s
  taken-settled c is = ap (λ (p : Option Clash). settled accepted s (unless_taken p asked)) is

  pub taken-told : (c : Clash) → o ≡ Some c → Some (Taken c.name c.holder) ≡ refusal_in (unless_taken o asked)
  taken-told c is = sym (ap (λ (p : Option Clash). refusal_in (unless_taken p asked)) is)

-- an update writes nothing, whether it is made or not, and no more does a batch
pub untold : (s : State) (u : Update) (o : Option Clash) → accepted_text command_text s (unless_taken o (command.Update u)) ≡ []
untold s u None = refl
untold s u (Some c) = refl

pub untold_all : (s : State) (us : List Update) (o : Option Clash) → accepted_text command_text s (unless_taken o (command.Batch us)) ≡ []
untold_all s us None = refl
untold_all s us (Some c) = refl

-- an update is no flush, whether it is made or not, and no more is a batch
pub untallied : (t : Tally) (s : State) (u : Update) (o : Option Clash) → t ≡ tally_after t (flushed_in s (unless_taken o (command.Update u)))
untallied t s u None = refl
untallied t s u (Some c) = refl

pub untallied_all : (t : Tally) (s : State) (us : List Update) (o : Option Clash) → t ≡ tally_after t (flushed_in s (unless_taken o (command.Batch us)))
untallied_all t s us None = refl
untallied_all t s us (Some c) = refl

-- ---- tests of selectors

module _ (R : Resources) (o : Option Clash) (asked : Command) (before now : Counter) where
  -- it is made
  pub free-tested : o ≡ None → HasTested R (Ok asked) before now → HasTested R (unless_taken o asked) before now
  free-tested free tested = subst (λ (p : Option Clash). HasTested R (unless_taken p asked) before now) (sym free) tested

  -- or it is refused, and tests nothing
  pub taken-tested : (c : Clash) → o ≡ Some c → now.ticks ≡ before.ticks → HasTested R (unless_taken o asked) before now
  taken-tested c is quiet =
      subst (λ (p : Option Clash). HasTested R (unless_taken p asked) before now) (sym is)
      (subst (λ (n : ℕ). IsTicked 0 0 before.ticks n) (sym quiet) (IsTicked-none before.ticks))

-- a call that leaves the counter as it was tests nothing
pub untested : (before now : Counter) → now ≡ before → IsTicked 0 0 before.ticks now.ticks
untested before now same = subst (λ (c : Counter). IsTicked 0 0 before.ticks c.ticks) (sym same) (IsTicked-none before.ticks)
