use Rattle.std.proofs.Common.{◌≡◌, drop}
use Rattle.fx_found.specs.Values.{number_after}
use Rattle.fx_found.proofs.values.number_in.Given as goal

-- with the digits that are left behind it, the number is whole
abbrev pub invariant-loop-c : goal.invariant-loop-c
invariant-loop-c l = number_after l.base l.number (drop l.c-index l.text) ≡ number_after l.base 0 l.text
