use Rattle.std.proofs.Common.{◌+◌, unwrap_or, ap, ◌∙◌}
use Rattle.std.specs.FinMap as map
use Rattle.fx_active.proofs.CountLemmas.{raised}
use Rattle.fx_active.proofs.listings.Listings.raise.Goals as goal

pub returns-clause-counts : goal.returns-clause-counts
returns-clause-counts c =
    raised c.args.self.now c.insert.new.self c.args.name.now c.unwrap_or-uses.result
    (c.unwrap_or-uses.ensures ∙ (λ j. unwrap_or (c.remove.ensures.before j) (c.new.ensures j)) ∙ (λ j. unwrap_or (map.get (c.self.view_is j) c.args.name.now) 0))
    (c.in_ok-insert.ensures.ok ∙ (λ j. map.insert (c.remove.ensures.removed j) (c.in_ok-clone.ensures.cases j) (c.in_ok-raise.ensures.ok j))
    ∙ ap (λ m. map.insert (map.remove m c.args.name.now) c.args.name.now (c.unwrap_or-uses.result + 1)) c.self.view_is)
