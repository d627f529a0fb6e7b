use Rattle.std.proofs.Common.{◌≡◌, subst}
use Rattle.std.specs.Prelude.{IfOk, OnOk}
use Rattle.std.specs.FinMap as maps
use Rattle.fx_model.specs.declared.ids.Key.{Key}
use Rattle.fx_services.proofs.places.Places.put.Goals as goal

pub returns-clause-had : goal.returns-clause-had
returns-clause-had c =
    subst (λ (k : Key). IfOk c.insert.result (λ had. had ≡ maps.get c.args.self.now.lists k)) c.in_ok-own.ensures c.insert.ensures.before

pub returns-clause-lists : goal.returns-clause-lists
returns-clause-lists c =
    subst (λ (k : Key). OnOk c.insert.result (c.insert.new.self ≡ maps.insert c.args.self.now.lists k c.args.lists)) c.in_ok-own.ensures c.insert.ensures.ok
