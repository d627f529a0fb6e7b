use Rattle.fx_walk.proofs.TreeWalks.{root_arrives, root_drops}
use Rattle.fx_walk.proofs.laws.trees_lead_to_endpoints.Goals as goal

pub returns-clause-arrives : goal.returns-clause-arrives
returns-clause-arrives c = λ sets a chains d names held n m s there. root_arrives sets a chains d names held n m s there

pub returns-clause-drops : goal.returns-clause-drops
returns-clause-drops c = λ sets a chains d names held n m s absent. root_drops sets a chains d names held n m s absent
