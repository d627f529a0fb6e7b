-- Why a line of a restart is refused: numbers, names and text. Their public source is docs/INPUT.md.
use Rattle.std.specs.Prelude.{ℕ, List, [], ◌++◌, Bool, true, false, Option, Some, None, codes, decimal}
use Rattle.fx_found.specs.declared.found.FoundFault.{FoundFault}
use Rattle.fx_found.specs.declared.found.FoundFault.TheVariants as fault
use Rattle.fx_print.specs.Texts.{refusal_line}
use Rattle.fx_restart_lines.specs.declared.refusal.RestoreRefusal.{RestoreRefusal}
use Rattle.fx_restart_lines.specs.declared.refusal.RestoreRefusal.TheVariants.{Line, FoundMissing, Rows}

-- a want of memory tells nothing of the rows
abbrev pub is_memory : FoundFault → Bool
is_memory (fault.BadRow row) = false
is_memory (fault.OpenRow row) = false
is_memory (fault.RankRow row) = false
is_memory (fault.ForeignUse row) = false
is_memory fault.Memory = true

-- it refuses no line
abbrev pub row_number : FoundFault → ℕ
row_number (fault.BadRow row) = 40
row_number (fault.OpenRow row) = 41
row_number (fault.RankRow row) = 42
row_number (fault.ForeignUse row) = 43
row_number fault.Memory = 9

abbrev pub row_name : FoundFault → List ℕ
row_name (fault.BadRow row) = codes "BadRow"
row_name (fault.OpenRow row) = codes "OpenRow"
row_name (fault.RankRow row) = codes "RankRow"
row_name (fault.ForeignUse row) = codes "ForeignUse"
row_name fault.Memory = codes "Memory"

-- which row it is, from 0
abbrev pub row_in : FoundFault → Option ℕ
row_in (fault.BadRow row) = Some row
row_in (fault.OpenRow row) = Some row
row_in (fault.RankRow row) = Some row
row_in (fault.ForeignUse row) = Some row
row_in fault.Memory = None

-- a space and the row, where there is one
abbrev pub row_text : Option ℕ → List ℕ
row_text None = []
row_text (Some row) = codes " " ++ decimal row

-- `refused LINE NUMBER NAME`, and the row behind it
abbrev pub row_line : ℕ → ℕ → List ℕ → Option ℕ → List ℕ
row_line line number name row =
    codes "refused "
    ++ (decimal line ++ (codes " " ++ (decimal number ++ (codes " " ++ (name ++ (row_text row ++ codes "\n"))))))

abbrev pub refused_line : ℕ → RestoreRefusal → List ℕ
refused_line line (Line r) = refusal_line line r
refused_line line FoundMissing = row_line line 44 (codes "FoundMissing") None
refused_line line (Rows f) = row_line line (row_number f) (row_name f) (row_in f)
