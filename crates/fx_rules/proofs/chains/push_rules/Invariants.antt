use Rattle.std.proofs.Common.{◌≡◌, ◌+◌, ◌++◌, drop}
use Rattle.fx_model.specs.Rendering.{rendered_rules}
use Rattle.fx_rules.specs.Rules.{reason_at}
use Rattle.fx_rules.proofs.chains.push_rules.Given as goal

-- with the rules that are left rendered behind it, the chain is whole
abbrev pub invariant-loop-i : goal.invariant-loop-i
invariant-loop-i l = l.chain ++ rendered_rules (reason_at l.owner) (l.i + 1) (drop l.i l.rules) ≡ l.fn.chain ++ rendered_rules (reason_at l.owner) 1 l.rules
