-- What stands between updates that are made in turn.
use Rattle.std.specs.Prelude.{List, [], ◌∷◌, ⊤}
use Rattle.fx_names.specs.Digests.{Digest}
use Rattle.fx_model.specs.declared.resources.Resources.{Resources}
use Rattle.fx_model.specs.declared.resources.Update.{Update}
use Rattle.fx_model.specs.Resources.{after}
use Rattle.fx_model.specs.Claims.{IsClashFree}

-- after each of the updates no two holders claim one name
abbrev pub StayClashFree : Digest → Resources → List Update → Type 0
StayClashFree dg R [] = ⊤
StayClashFree dg R (u ∷ us) = IsClashFree dg (after R u) × StayClashFree dg (after R u) us
