use Rattle.std.proofs.Common.{◌≡◌, map as each, inl, refl, sym, ap, ◌∙◌, subst}
use Rattle.std.specs.FinMap as map
use Rattle.fx_base.specs.Extended.{extended}
use Rattle.fx_base.proofs.Walk.{IsRest, IsRest-start, IsRest-head, IsRest-next}
use Rattle.fx_model.proofs.Orders.{item_total, exact_item}
use Rattle.fx_model.specs.Views.{profile_key}
use Rattle.fx_resolver.specs.Resolved.{HaveOwnInterfaces}
use Rattle.fx_node_laws.specs.Changes.{Taken}
use Rattle.fx_node_laws.specs.Waits.{known_waiting}
use Rattle.fx_graph.specs.Taking.{with_local, taken_of}
use Rattle.fx_graph.proofs.Serving.{AreThere, IsPlacing, Placed, placing_first, placing_next, placing_last, there_next, own_there, others_next}
use Rattle.fx_graph.proofs.nodes.Nodes.put_locals.Goals as goal

pub loop-key-init : goal.loop-key-init
loop-key-init g c =
    let dg = g.R.DigestRule.digest_of in
    let w = c.args.waiting.now in
    let old = c.args.self.now.resolver.endpoints in
    let e = c.into_iter-key-iterator.ensures.into_iter_gives ∙ c.iter-key-items.ensures in
    record {
      left = subst (λ es. IsRest w es) (sym e) (IsRest-start item_total w);
      placing = subst (IsPlacing dg (extended old (each (λ x. (x.0, known_waiting dg x.1)) (map.entries w))) old) (sym e) (placing_first dg old (map.entries w));
      there = λ k x at. inl at;
      others = refl;
      beside = record { waiting = refl; sent = refl };
      settled = c.requires.settled;
      index = refl;
    }

pub put_local-requires-clause-short : goal.put_local-requires-clause-short
put_local-requires-clause-short g c =
    let w = c.args.waiting.now in
    c.requires.short c.in-Some.key.now c.in-Some.endpoint.now (IsRest-head item_total w _ _ (subst (λ es. IsRest w es) c.in-Some.ensures.steps c.loop-key.invariant.left))

pub put_local-requires-clause-apart : goal.put_local-requires-clause-apart
put_local-requires-clause-apart g c =
    let dg = g.R.DigestRule.digest_of in
    let w = c.args.waiting.now in
    let now = c.loop-key.self.resolver.endpoints in
    let waits = IsRest-head item_total w _ _ (subst (λ es. IsRest w es) c.in-Some.ensures.steps c.loop-key.invariant.left) in
    let there = there_next dg w (taken_of c.args.self.now) now c.in-Some.key.now c.in-Some.endpoint.now waits c.loop-key.invariant.there in
    subst HaveOwnInterfaces
    (λ j. map.insert now c.in-Some.key.now (record { iface = c.in-Some.endpoint.now.iface; profiles = each (profile_key dg) (sym c.as_slice-profiles.ensures j) }))
    (own_there dg w (taken_of c.args.self.now) _ c.requires.own there)

pub put_local-requires-clause-settled : goal.put_local-requires-clause-settled
put_local-requires-clause-settled g c = c.loop-key.invariant.settled

pub loop-key-preserved : goal.loop-key-preserved
loop-key-preserved g c =
    let dg = g.R.DigestRule.digest_of in
    let w = c.args.waiting.now in
    let old = c.args.self.now.resolver.endpoints in
    let now = c.loop-key.self.resolver.endpoints in
    let i = c.loop-key.invariant in
    let p = c.in_ok-put_local.ensures in
    let k = c.in-Some.key.now in
    let x = c.in-Some.endpoint.now in
    let rest = subst (λ es. IsRest w es) c.in-Some.ensures.steps i.left in
    let here = subst (IsPlacing dg (extended old (each (λ x. (x.0, known_waiting dg x.1)) (map.entries w))) now) c.in-Some.ensures.steps i.placing in
    let taken : taken_of c.put_local.new.self ≡ with_local k (known_waiting dg x) (taken_of c.loop-key.self) =
    p.taken ∙ (λ j. with_local k (record { iface = x.iface; profiles = each (profile_key dg) (c.as_slice-profiles.ensures j) }) (taken_of c.loop-key.self)) in
    let locals = ap (λ (t : Taken). t.locals) taken in
    record {
      left = IsRest-next item_total exact_item w _ _ rest;
      placing = placing_next dg _ _ _ _ here _ locals;
      there = subst (AreThere dg w (taken_of c.args.self.now)) (sym locals)
          (there_next dg w (taken_of c.args.self.now) now k x (IsRest-head item_total w _ _ rest) i.there);
      others = others_next (taken_of c.args.self.now) (taken_of c.loop-key.self) (taken_of c.put_local.new.self) k (known_waiting dg x) i.others taken;
      beside = record { waiting = p.beside.waiting ∙ i.beside.waiting; sent = p.beside.sent ∙ i.beside.sent };
      settled = p.settled;
      index = p.index ∙ i.index;
    }

pub returns-clause-taken : goal.returns-clause-taken
returns-clause-taken g c =
    let dg = g.R.DigestRule.digest_of in
    let old = c.args.self.now.resolver.endpoints in
    let none = subst (IsPlacing dg (extended old (each (λ x. (x.0, known_waiting dg x.1)) (map.entries c.args.waiting.now))) c.loop-key.self.resolver.endpoints) c.in-None.ensures.steps.0 c.loop-key.invariant.placing in
    c.loop-key.invariant.others ∙ ap (λ (l : Placed). record (taken_of c.args.self.now) { locals = l }) (placing_last dg _ _ none)
