use Rattle.std.proofs.Common.{refl}
use Rattle.fx_model.specs.Resources.{empty_resources}
use Rattle.fx_laws.proofs.ClaimsApart.{clash_free_after, clash_free_none}
use Rattle.fx_laws.proofs.laws.accepted_updates_keep_claims_apart.Goals as goal

pub returns-clause-start : goal.returns-clause-start
returns-clause-start c = λ dg node. clash_free_none dg (empty_resources node) refl refl refl

pub returns-clause-after : goal.returns-clause-after
returns-clause-after c = clash_free_after
