-- The words of the command line name the node alone.
use Rattle.std.specs.Prelude.{ℕ, List, codes}

-- what is told where they don't
abbrev pub usage_line : List ℕ
usage_line = codes "usage: felix-restore --node NAME\n"
