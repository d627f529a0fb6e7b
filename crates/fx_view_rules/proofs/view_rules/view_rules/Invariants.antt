use Rattle.std.proofs.Common.{◌≡◌, ◌++◌, map, drop}
use Rattle.fx_model.specs.Views.{view_rule}
use Rattle.fx_view_rules.proofs.view_rules.view_rules.Given as goal

-- with those of the rules that are left, all are there
abbrev pub invariant-loop-rule : goal.invariant-loop-rule
invariant-loop-rule g l = l.wanted ++ map (view_rule g.R.DigestRule.digest_of) (drop l.rule-index l.rule-items) ≡ map (view_rule g.R.DigestRule.digest_of) l.rules
