-- The bytes that a text holds, beside the count of its copies or behind it.
use Rattle.std.specs.Prelude.{ℕ, List}
use Rattle.fx_base.specs.declared.text.Bytes.{Bytes}
use Rattle.fx_base.specs.declared.text.Bytes.TheVariants.{Few, Many}

abbrev pub bytes_of : Bytes → List ℕ
bytes_of (Few bytes) = bytes
bytes_of (Many bytes) = bytes.items
