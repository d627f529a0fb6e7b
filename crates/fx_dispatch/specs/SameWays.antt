-- `==` tells all ways apart.
use Rattle.std.specs.Prelude.{◌≡◌, true}
use Rattle.fx_base.specs.Same.{same_bytes, both_pass}
use Rattle.fx_dispatch.specs.declared.way.Way.{Way}
use Rattle.fx_dispatch.specs.declared.way.Way.TheVariants.{Own, Shared}
use Rattle.fx_dispatch.specs.contracts.way.WayPartialEq.TheImpl as way

pub same_way : (x y : Way) → way.eq-value.it x y ≡ true → x ≡ y
same_way (Own a) (Own b) e = λ i. Own (same_bytes a b e i)
same_way (Shared p b) (Shared q c) e = let h = both_pass _ _ e in λ i. Shared (same_bytes p q h.0 i) (same_bytes b c h.1 i)
same_way (Own a) (Shared q c) e = cc
same_way (Shared p b) (Own a) e = cc
