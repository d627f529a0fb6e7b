-- The output of a replay: what each line writes, and what stands between two lines. The rules that it follows stand in
-- docs/INPUT.md and docs/OUTPUT.md of this repository.
use Rattle.std.specs.Prelude.{ℕ, ◌-◌, ◌^◌, min, List, [], ◌++◌, map, length, Bool, Option, Some, None, is_some, Result, Ok, Err}
use Rattle.std.specs.List.{concat}
use Rattle.fx_model.specs.declared.resources.Update.{Update}
use Rattle.fx_model.specs.declared.resources.Resources.{Resources}
use Rattle.fx_model.specs.declared.view.View.{View}
use Rattle.fx_model.specs.Resources.{after, empty_resources}
use Rattle.fx_names.specs.Digests.{Digest}
use Rattle.fx_names.specs.Claims.{Clash}
use Rattle.fx_model.specs.Batches.{after_all, clash_all}
use Rattle.fx_model.specs.Claims.{clash}
use Rattle.fx_model.specs.Views.{view_of, empty_view}
use Rattle.fx_model.specs.ViewTables.{tables_of}
use Rattle.fx_model.specs.Messages.{Change, Flush, flush, next_message}
use Rattle.fx_fields.specs.declared.refusal.Refusal.{Refusal}
use Rattle.fx_fields.specs.declared.refusal.Refusal.TheVariants.{Taken}
use Rattle.fx_lines.specs.declared.commands.Command.{Command}
use Rattle.fx_lines.specs.declared.commands.Command.TheVariants as command
use Rattle.fx_lines.specs.Commands.{command_of}
use Rattle.fx_print.specs.Texts.{refusal_line, flushed_line, usage_line}
use Rattle.fx_program.specs.Answers.{accepted_text, by_answers, settled}
use Rattle.fx_program.specs.Meanings.{Meaning}
use Rattle.fx_words.specs.declared.words.Asked.{Asked}
use Rattle.fx_model.specs.MessageTexts.{message_line}
use Rattle.fx_model.specs.TableTexts.{table_lines}
use Rattle.fx_replay.specs.PacketRuns.{packet_text}

-- what stands between two lines: the digest by which names are made, which stays, the resources and the view that was sent
pub record State : Type 0 where
  pub digest : Digest
  pub resources : Resources
  pub sent : View

-- before the first line of the node of this name
abbrev pub start : Digest → List ℕ → State
start dg node = record {
  digest = dg;
  resources = empty_resources node;
  sent = empty_view;
}

-- ---- what a line says of the resources

-- a command whose claims clash is refused, with the first clash
abbrev pub unless_taken : Option Clash → Command → Result Command Refusal
unless_taken None asked = Ok asked
unless_taken (Some c) asked = Err (Taken c.name c.holder)

abbrev pub update_answer : Digest → Resources → Update → Result Command Refusal
update_answer dg R u = unless_taken (clash dg R u) (command.Update u)

-- a batch is made whole or refused whole; what stands between its updates isn't tested
abbrev pub batch_answer : Digest → Resources → List Update → Result Command Refusal
batch_answer dg R us = unless_taken (clash_all dg R us) (command.Batch us)

abbrev pub checked : Digest → Resources → Result Command Refusal → Result Command Refusal
checked dg R (Ok command.Blank) = Ok command.Blank
checked dg R (Ok command.Tables) = Ok command.Tables
checked dg R (Ok (command.Flush limit)) = Ok (command.Flush limit)
checked dg R (Ok (command.Update u)) = update_answer dg R u
checked dg R (Ok (command.Batch us)) = batch_answer dg R us
checked dg R (Ok (command.Packet a)) = Ok (command.Packet a)
checked dg R (Err r) = Err r

-- the command or the refusal of a line
abbrev pub answer_of : State → List ℕ → Result Command Refusal
answer_of s line = checked s.digest s.resources (command_of line)

-- ---- what a line flushes

-- a flush sends the messages from the view that was sent towards that of the resources, so many at most where it has a limit
abbrev pub flush_of : Option ℕ → State → Flush
flush_of limit s = flush limit s.sent (view_of s.digest s.resources)

-- no other line sends anything
abbrev pub flushed_in : State → Result Command Refusal → Option Flush
flushed_in s (Ok command.Blank) = None
flushed_in s (Ok command.Tables) = None
flushed_in s (Ok (command.Flush limit)) = Some (flush_of limit s)
flushed_in s (Ok (command.Update u)) = None
flushed_in s (Ok (command.Batch us)) = None
flushed_in s (Ok (command.Packet a)) = None
flushed_in s (Err r) = None

abbrev pub flushed_by : State → List ℕ → Option Flush
flushed_by s line = flushed_in s (answer_of s line)

-- ---- what a line does

abbrev pub accepted : State → Command → State
accepted s command.Blank = s
accepted s command.Tables = s
accepted s (command.Flush limit) = record s { sent = (flush_of limit s).ends }
accepted s (command.Update u) = record s { resources = after s.resources u }
accepted s (command.Batch us) = record s { resources = after_all s.resources us }
accepted s (command.Packet a) = s

-- a refused line changes nothing
abbrev pub next : State → List ℕ → State
next s line = settled accepted s (answer_of s line)

-- ---- what a line writes

-- the line of a message, where there is one
abbrev pub first_text : Option Change → List ℕ
first_text None = []
first_text (Some c) = message_line c

-- the messages from one view towards another
abbrev pub messages_text : Option ℕ → View → View → List ℕ
messages_text limit sent wanted = concat (map message_line (flush limit sent wanted).messages)

-- how many there are, as far as 64 bits tell
abbrev pub count_of : Flush → ℕ
count_of f = min (length f.messages) (2 ^ 64 - 1)

abbrev pub message_count : Option ℕ → View → View → ℕ
message_count limit sent wanted = count_of (flush limit sent wanted)

-- whether messages are left behind them
abbrev pub leaves_more : Option ℕ → View → View → Bool
leaves_more limit sent wanted = is_some (next_message (flush limit sent wanted).ends wanted)

abbrev pub flush_text : Option ℕ → View → View → List ℕ
flush_text limit sent wanted =
    messages_text limit sent wanted ++ flushed_line (message_count limit sent wanted) (leaves_more limit sent wanted)

abbrev pub command_text : State → Command → List ℕ
command_text s command.Blank = []
command_text s command.Tables = concat (table_lines (tables_of s.sent))
command_text s (command.Flush limit) = flush_text limit s.sent (view_of s.digest s.resources)
command_text s (command.Update u) = []
command_text s (command.Batch us) = []
command_text s (command.Packet a) = packet_text (tables_of s.sent) a

-- what a line writes that is accepted
abbrev pub text : State → List ℕ → List ℕ
text s line = accepted_text command_text s (answer_of s line)

-- ---- the whole

-- of what the words ask for
abbrev pub meaning : Digest → Meaning Asked State Refusal
meaning dg = by_answers usage_line (λ (asked : Asked). start dg asked.node) answer_of accepted command_text refusal_line
