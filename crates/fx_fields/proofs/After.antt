-- How the items of a list are read, one after another.
use Rattle.std.specs.Prelude.{List, ◌++◌, Result, Ok}
use Rattle.fx_fields.specs.declared.fault.ReadFault.{ReadFault}
use Rattle.fx_fields.specs.Fields.{◌>>=◌}

-- with these before
abbrev pub after : {A : Type 0} → List A → Result (List A) ReadFault → Result (List A) ReadFault
after done answer = answer >>= λ rest. Ok (done ++ rest)
