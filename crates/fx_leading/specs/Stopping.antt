-- How far the operations came where a fault ended them.
use Rattle.std.specs.Prelude.{◌≡◌, ◌⊎◌, ℕ, List, ◌++◌, take, Option}
use Rattle.std.specs.Io.KnownBytes.{Appends}
use Rattle.fx_base.specs.Streams.{AppendsPrefix}
use Rattle.fx_model.specs.Tables.{Tables}
use Rattle.fx_reconcile.specs.declared.op.Op.{Op}
use Rattle.fx_reconcile.specs.Goal.{after_all}
use Rattle.fx_reconcile.specs.Operations.{operations}
use Rattle.fx_leading.specs.Lines.{op_lines}

-- The lines of the first operations were written, and of the next one's a part at most. The tables are those after these operations,
-- and then nothing of the next one's line was written; or they are those after one more.
pub record HasStopped (start goal now : Tables) (before after : Option (List ℕ)) : Type 0 where
  pub done : List Op
  pub left : List Op
  pub all : operations start goal ≡ done ++ left
  pub middle : Option (List ℕ)
  pub lines : Appends before middle (op_lines goal done)
  pub part : AppendsPrefix middle after (op_lines goal (take 1 left))
  pub tables : ((now ≡ after_all done start goal) × (after ≡ middle)) ⊎ (now ≡ after_all (done ++ take 1 left) start goal)
