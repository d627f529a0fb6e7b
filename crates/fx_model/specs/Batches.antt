-- Updates that are made together. Each is made in turn, but only what stands at the end counts for the names in the kernel: what stands
-- between them is not tested, so names may be exchanged.
use Rattle.std.specs.Prelude.{List, [], ◌∷◌, not, filter, Option}
use Rattle.std.specs.List.{flat_map}
use Rattle.fx_names.specs.Digests.{Digest}
use Rattle.fx_names.specs.Claims.{Clash}
use Rattle.fx_model.specs.declared.ids.Key.{Key}
use Rattle.fx_model.specs.contracts.ids.KeyPartialEq.TheImpl as key_eq
use Rattle.fx_model.specs.declared.resources.Resources.{Resources}
use Rattle.fx_model.specs.declared.resources.Update.{Update}
use Rattle.fx_model.specs.Resources.{after}
use Rattle.fx_model.specs.Claims.{touched_by, clash_at}

-- the resources after these updates, made in turn
abbrev pub after_all : Resources → List Update → Resources
after_all R [] = R
after_all R (u ∷ us) = after_all (after R u) us

-- each key once, where it stands first
abbrev pub each_once : List Key → List Key
each_once [] = []
each_once (k ∷ ks) = k ∷ filter (λ l. not (key_eq.eq-value.it k l)) (each_once ks)

-- the keys that some of the updates puts or deletes, by the first that does
abbrev pub touched_keys : List Update → List Key
touched_keys us = each_once (flat_map touched_by us)

-- the first clash that the updates make together: of what the touched keys claim in the end, with what other records claim or with an
-- earlier one
abbrev pub clash_all : Digest → Resources → List Update → Option Clash
clash_all dg R us = clash_at dg R (touched_keys us) (after_all R us)
