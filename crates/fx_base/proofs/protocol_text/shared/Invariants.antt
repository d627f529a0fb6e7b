use Rattle.std.proofs.Common.{◌≡◌, ◌≤◌, length, take}
use Rattle.std.specs.Str.{str_to_ascii_lowercase}
use Rattle.fx_base.proofs.protocol_text.shared.Given as goal

abbrev pub invariant-loop-at : goal.invariant-loop-at
invariant-loop-at l = (l.at ≤ length l.name) × (str_to_ascii_lowercase (take l.at l.text) ≡ take l.at l.name)
