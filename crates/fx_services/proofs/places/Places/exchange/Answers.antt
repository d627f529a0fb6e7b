use Rattle.std.proofs.Common.{◌≡◌, Option, sym, ap, ◌∙◌, subst}
use Rattle.std.specs.Prelude.{OnOk}
use Rattle.fx_base.specs.Extended.{put_or_removed}
use Rattle.fx_services.specs.declared.places.PlaceLists.{PlaceLists}
use Rattle.fx_services.proofs.places.Places.exchange.Goals as goal

pub returns-in-Some-clause-lists : goal.returns-in-Some-clause-lists
returns-in-Some-clause-lists c =
    subst (λ (o : Option PlaceLists). OnOk c.put.result (c.put.new.self.lists ≡ put_or_removed c.args.self.now.lists c.args.key.now o)) (sym c.in-Some.is) c.put.ensures.lists

pub returns-in-None-clause-lists : goal.returns-in-None-clause-lists
returns-in-None-clause-lists c =
    c.remove.ensures.removed ∙ ap (λ (o : Option PlaceLists). put_or_removed c.args.self.now.lists c.args.key.now o) (sym c.in-None.is)
