use Rattle.std.proofs.Common.{ap}
use Rattle.fx_store.proofs.Stored.{keeps_none}
use Rattle.fx_store.proofs.store.Store.new.Goals as goal

pub returns-clause-claims : goal.returns-clause-claims
returns-clause-claims c = λ dg. keeps_none dg c.new.result c.new-2.result (ap (λ r. r.endpoints) c.new.ensures) (ap (λ r. r.profiles) c.new.ensures) (ap (λ r. r.policies) c.new.ensures) c.new-2.ensures
