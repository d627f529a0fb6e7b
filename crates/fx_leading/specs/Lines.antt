-- What is written of operations as they are done: the text of each, with a newline; and how many they were.
use Rattle.std.specs.Prelude.{ℕ, List, ◌++◌, codes, decimal}
use Rattle.std.specs.List.{flat_map}
use Rattle.fx_model.specs.Tables.{Tables}
use Rattle.fx_reconcile.specs.declared.op.Op.{Op}
use Rattle.fx_reconcile.specs.Texts.{op_text}

abbrev pub op_line : Tables → Op → List ℕ
op_line goal op = op_text op goal ++ codes "\n"

abbrev pub op_lines : Tables → List Op → List ℕ
op_lines goal ops = flat_map (op_line goal) ops

-- behind a word, their number
abbrev pub count_line : List ℕ → ℕ → List ℕ
count_line word n = word ++ (codes " " ++ (decimal n ++ codes "\n"))
