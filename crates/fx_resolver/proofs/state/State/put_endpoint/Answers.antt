use Rattle.std.proofs.Common.{◌≡◌, sym, ap, ◌∙◌, subst}
use Rattle.std.specs.FinMap as map
use Rattle.fx_model.specs.SameIds.{copies_item}
use Rattle.fx_resolver.specs.Kept.{IsKept}
use Rattle.fx_resolver.specs.Known.{KnownEndpoints}
use Rattle.fx_resolver.specs.Placed.{stands_of}
use Rattle.fx_resolver.proofs.state.State.put_endpoint.Goals as goal

pub returns-clause-kept : goal.returns-clause-kept
returns-clause-kept g c =
    let n = c.args.self.now.inputs in
    let is : c.insert.new.self ≡ map.insert n.endpoints c.args.item.now c.args.endpoint =
    c.in_ok-insert.ensures.ok ∙ ap (λ k. map.insert n.endpoints k c.args.endpoint) (copies_item _ _ c.in_ok-clone.ensures.cases) in
    subst (λ (m : KnownEndpoints). IsKept (stands_of n.tiers) n.policies n.pairs m c.put_row.new.rows) (sym is) c.in_ok-put_row.ensures.kept
