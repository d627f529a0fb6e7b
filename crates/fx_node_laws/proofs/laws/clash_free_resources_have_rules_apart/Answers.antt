use Rattle.std.proofs.Common.{refl}
use Rattle.fx_node_laws.proofs.Defining.{defined}
use Rattle.fx_node_laws.proofs.Given.{given}
use Rattle.fx_node_laws.proofs.RulesApart.{rules_apart}
use Rattle.fx_node_laws.proofs.laws.clash_free_resources_have_rules_apart.Goals as goal

pub returns : goal.returns
returns c = λ dg R n a r m policies profiles pairs formed free tied composed. rules_apart dg formed free (given (defined tied policies profiles pairs composed) refl refl)
