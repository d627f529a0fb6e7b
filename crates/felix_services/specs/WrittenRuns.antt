-- The resources as they are written along a run.
use Rattle.std.specs.Prelude.{ℕ, List, [], ◌∷◌, Option, Some, None}
use Rattle.fx_names.specs.Claims.{Clash}
use Rattle.fx_names.specs.Digests.{Digest}
use Rattle.fx_model.specs.Claims.{clash}
use Rattle.fx_model.specs.declared.resources.Resources.{Resources}
use Rattle.fx_services.specs.Written.{Written, WrittenUpdate, nothing_written, after_written, lowered_written}
use Rattle.fx_service_lines.specs.WrittenLines.{written_of}
use Rattle.felix_services.specs.Output.{State, start, next}

-- it is made where no name is taken that its record claims
abbrev pub made_if : Option Clash → Written → WrittenUpdate → Written
made_if None W u = after_written W u
made_if (Some c) W u = W

abbrev pub made : Digest → Resources → Written → Option WrittenUpdate → Written
made dg R W None = W
made dg R W (Some u) = made_if (clash dg R (lowered_written u)) W u

abbrev pub written_next : State → Written → List ℕ → Written
written_next s W line = made s.replay.digest s.replay.resources W (written_of line)

unfoldable pub written_along : State → Written → List (List ℕ) → Written
written_along s W [] = W
written_along s W (line ∷ lines) = written_along (next s line) (written_next s W line) lines

-- the resources as they are written, behind these lines
abbrev pub written_behind : Digest → List ℕ → List (List ℕ) → Written
written_behind dg node lines = written_along (start dg node) (nothing_written node) lines
