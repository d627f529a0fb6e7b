-- The bytes of an IP set's name: `cali40`, the kind and a tail. Felix names its sets so.
use Rattle.std.specs.Prelude.{ℕ, List, ◌++◌, ◌==◌, codes, slice_index, if◌then◌else◌}
use Rattle.fx_base.specs.declared.set_name.SetKind.{SetKind}
use Rattle.fx_base.specs.declared.set_name.SetKind.TheVariants.{Nets, Ports}

-- the first eight bytes
abbrev pub head_of : SetKind → List ℕ
head_of Nets = codes "cali40s:"
head_of Ports = codes "cali40n:"

abbrev pub set_name_text : SetKind → List ℕ → List ℕ
set_name_text kind tail = head_of kind ++ tail

-- the kind that a name tells
abbrev pub kind_of : List ℕ → SetKind
kind_of bytes = if slice_index bytes 6 == 115 then Nets else Ports
