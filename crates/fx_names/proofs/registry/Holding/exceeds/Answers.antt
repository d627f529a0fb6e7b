use Rattle.std.proofs.Common.{cond, not, ap, ◌∙◌}
use Rattle.std.specs.Prelude.{nat_lt}
use Rattle.fx_names.proofs.Holdings.{some_uses}
use Rattle.fx_names.proofs.registry.Holding.exceeds.Goals as goal

pub returns-then-eq : goal.returns-then-eq
returns-then-eq c = c.exceeds_uses.ensures ∙ ap (λ b. nat_lt (cond b c.args.other.now.uses 0) c.args.self.now.uses) c.if-eq.ensures

pub returns-else-eq : goal.returns-else-eq
returns-else-eq c = ap not c.is_zero.ensures ∙ some_uses c.args.self.now.uses ∙ ap (λ b. nat_lt (cond b c.args.other.now.uses 0) c.args.self.now.uses) c.if-eq.ensures
