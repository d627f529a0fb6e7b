-- One step of a restart: the law of its program.
use Rattle.std.specs.Prelude.{◌≡◌, ℕ, List, Option, Result, refl}
use Rattle.std.proofs.Common.{ap}
use Rattle.serde_json.specs.Data.{Data}
use Rattle.fx_fields.specs.declared.refusal.Refusal.{Refusal}
use Rattle.fx_lines.specs.Lines.{clip}
use Rattle.fx_lines.proofs.Clips.{value_in-clip}
use Rattle.fx_names.specs.Digests.{Digest}
use Rattle.fx_program.specs.Answers.{refusal_in}
use Rattle.fx_program.specs.Meanings.{IsSameLine}
use Rattle.fx_restart_lines.specs.Reading.{said_of}
use Rattle.felix_restore.specs.Output.{State, answer_of, checked, settled}
use Rattle.felix_restore.specs.Top.{meaning}

-- what is kept of a line does what the line does
pub next-clip : (dg : Digest) (s : State) (line : List ℕ) → IsSameLine (meaning dg) s (clip line) line
next-clip dg s line =
    let same : answer_of s (clip line) ≡ answer_of s line =
    ap (λ (value : Result (Option Data) Refusal). checked s.digest s.resources (said_of s.finding value)) (value_in-clip line) in
    record { behind = ap (settled s) same; refusal = ap refusal_in same; text = refl }
