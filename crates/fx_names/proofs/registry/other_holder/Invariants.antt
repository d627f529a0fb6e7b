use Rattle.std.proofs.Common.{◌≡◌, None, take}
use Rattle.fx_names.specs.Claims.{other_holder}
use Rattle.fx_names.proofs.registry.other_holder.Given as goal

abbrev pub invariant-loop-held : goal.invariant-loop-held
invariant-loop-held l = other_holder (take l.held-index l.claims) l.claim ≡ None
