-- The lines of answers that aren't about packets, messages or tables, each with its newline. docs/OUTPUT.md of this
-- repository is their public source.
use Rattle.std.specs.Prelude.{ℕ, List, [], ◌++◌, Bool, true, false, Option, Some, None, codes, decimal}
use Rattle.fx_base.specs.KernelName.{kernel_bytes}
use Rattle.fx_fields.specs.declared.refusal.Refusal.{Refusal}
use Rattle.fx_fields.specs.declared.refusal.Refusal.TheVariants.{Read, LineTooLong, BadJson, BadLine, Taken}
use Rattle.fx_fields.specs.declared.fault.ReadFault.{ReadFault}
use Rattle.fx_fields.specs.Faults.{path_of, place_of}
use Rattle.fx_fields.specs.Refusals.{refusal_number, refusal_name}

-- a space and the path, where there is one
abbrev pub path_text : Option (List ℕ) → List ℕ
path_text None = []
path_text (Some path) = codes " " ++ path

-- a space and the place in a selector's text, where there is one
abbrev pub place_text : Option ℕ → List ℕ
place_text None = []
place_text (Some at) = codes " " ++ decimal at

abbrev pub fault_text : ReadFault → List ℕ
fault_text fault = path_text (path_of fault) ++ place_text (place_of fault)

-- what follows the name: a path and a place behind it, or the name in the kernel that is taken and its holder
abbrev pub detail_of : Refusal → List ℕ
detail_of (Read fault) = fault_text fault
detail_of LineTooLong = []
detail_of BadJson = []
detail_of BadLine = []
detail_of (Taken name holder) = codes " " ++ (kernel_bytes name ++ (codes " " ++ holder))

-- `refused LINE NUMBER NAME`, and what follows it
abbrev pub refusal_line : ℕ → Refusal → List ℕ
refusal_line line r =
    codes "refused " ++ (decimal line ++ (codes " " ++ (decimal (refusal_number r) ++ (codes " " ++ (refusal_name r ++ (detail_of r ++ codes "\n"))))))

-- a word where messages are left
abbrev pub more_text : Bool → List ℕ
more_text true = codes " more"
more_text false = []

-- the end of a flush that told so many messages
abbrev pub flushed_line : ℕ → Bool → List ℕ
flushed_line n more = codes "flushed " ++ (decimal n ++ (more_text more ++ codes "\n"))

-- a word and a number
abbrev pub numbered : List ℕ → ℕ → List ℕ
numbered word n = word ++ decimal n

-- the end of a soak run: its seed and how many lines were drawn, and how many flushes, messages and ticks there were
abbrev pub soak_line : ℕ → ℕ → ℕ → ℕ → ℕ → List ℕ
soak_line seed count flushes messages ticks =
    numbered (codes "soak ") seed ++ (numbered (codes " ") count ++ (numbered (codes " flushes ") flushes ++ (numbered (codes " messages ") messages ++ (numbered (codes " ticks ") ticks ++ codes "\n"))))

-- what is told where the program's words are not in their grammar
abbrev pub usage_line : List ℕ
usage_line = codes "usage: felix-replay --node NAME [--soak SEED --count N]\n"
