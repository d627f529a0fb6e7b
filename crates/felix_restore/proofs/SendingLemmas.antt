-- How pulls bring the sent view up to that of the resources.
use Rattle.std.proofs.Common.{◌≡◌, ◌+◌, Bool, false, Option, Some, None, refl, arith}
use Rattle.fx_model.specs.declared.view.View.{View}
use Rattle.fx_model.specs.Messages.{Change, next_message, step, step_by, differences}
use Rattle.fx_laws.proofs.Nearer.{no_message, step-nearer}
use Rattle.fx_agent.specs.Answers.{IsPullCause}
use Rattle.fx_agent.specs.declared.faults.PullFault.{PullFault}
use Rattle.fx_agent.specs.declared.faults.PullFault.TheVariants as pull

-- a message leaves one difference fewer
pub nearer : (s w : View) → ¬ (s ≡ w) → differences (step s w) w + 1 ≡ differences s w
nearer s w apart = by_message (next_message s w) refl
  where
    by_message : (o : Option Change) → next_message s w ≡ o → differences (step_by o s w) w + 1 ≡ differences s w
    by_message None is = absurd (apart (no_message s w is))
    by_message (Some c) is = step-nearer s w c is

-- an out that never fails, of an agent whose memory never ran out
pub only_memory : (fault : PullFault) (failed : Bool) → failed ≡ false → IsPullCause failed 0 0 fault → fault ≡ pull.Memory
only_memory pull.Write failed ready h = absurd (omega (arith, h.1))
only_memory pull.Memory failed ready h = refl
only_memory pull.NeedsResync failed ready h = cc
