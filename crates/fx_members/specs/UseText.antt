-- The text by which a used set finds its items: that of its selector.
use Rattle.std.specs.Prelude.{ℕ, List}
use Rattle.fx_selector.specs.Canonical.{canonical_text}
use Rattle.fx_model.specs.declared.set_use.SetUse.{SetUse}

abbrev pub text_of : SetUse → List ℕ
text_of u = canonical_text u.selector
