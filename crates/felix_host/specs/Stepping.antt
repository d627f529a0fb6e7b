-- One step of a run over host endpoints: the law of its program.
use Rattle.std.specs.Prelude.{ℕ, List}
use Rattle.std.proofs.Common.{ap}
use Rattle.fx_lines.specs.Lines.{clip}
use Rattle.fx_lines.proofs.Clips.{command_by-clip}
use Rattle.fx_names.specs.Digests.{Digest}
use Rattle.fx_print.specs.Texts.{refusal_line}
use Rattle.fx_program.specs.Answers.{same_line}
use Rattle.fx_program.specs.Meanings.{IsSameLine}
use Rattle.fx_host_lines.specs.declared.command.HostCommand.TheVariants as command
use Rattle.fx_host_lines.specs.Commands.{by_name}
use Rattle.felix_host.specs.Output.{State, accepted, answer_of, checked, command_text, meaning, start}
use Rattle.felix_host.specs.Words.{usage_line}

-- what is kept of a line does what the line does
pub next-clip : (dg : Digest) (s : State) (line : List ℕ) → IsSameLine (meaning dg) s (clip line) line
next-clip dg s line =
    same_line usage_line (start dg) answer_of accepted command_text refusal_line s (clip line) line
    (ap (checked s.digest s.resources) (command_by-clip command.Blank by_name line))
