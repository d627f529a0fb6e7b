use Rattle.std.proofs.Common.{◌≡◌, ◌++◌, take}
use Rattle.fx_model.specs.MessageTexts.{later_tiers}
use Rattle.fx_print.proofs.messages.push_later_tiers.Given as goal

abbrev pub invariant-loop-tier : goal.invariant-loop-tier
invariant-loop-tier l = l.line.items ≡ l.fn.line.items ++ later_tiers (take l.tier-index l.tiers)
