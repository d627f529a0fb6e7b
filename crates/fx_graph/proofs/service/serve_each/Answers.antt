use Rattle.std.proofs.Common.{map as each, refl, sym, ap, ◌∙◌, subst}
use Rattle.std.specs.FinMap as map
use Rattle.fx_base.specs.Extended.{extended}
use Rattle.fx_active.specs.declared.inputs.Inputs as active
use Rattle.fx_graph_rules.proofs.Composing.{composed}
use Rattle.fx_graph.proofs.Serving.{IsServing, Served, serving_first, serving_next, serving_last}
use Rattle.fx_graph.proofs.service.serve_each.Goals as goal

pub loop-key-init : goal.loop-key-init
loop-key-init g c =
    let old = c.args.upper.now.joined.active.endpoints in
    record {
      index = refl;
      pairs = refl;
      active = refl;
      serving = subst (IsServing (extended old (each (λ x. (x.0, x.1.profiles)) (map.entries c.args.waiting.now))) old)
          (sym (c.into_iter-key-iterator.ensures.into_iter_gives ∙ c.iter-key-items.ensures)) (serving_first old (map.entries c.args.waiting.now));
      some = c.requires;
      upper = λ used u. u;
    }

pub serve-requires : goal.serve-requires
serve-requires g c = c.loop-key.invariant.some

pub loop-key-preserved : goal.loop-key-preserved
loop-key-preserved g c =
    let old = c.args.upper.now.joined.active.endpoints in
    let i = c.loop-key.invariant in
    let s = c.in_ok-serve.ensures in
    let here = subst (IsServing (extended old (each (λ x. (x.0, x.1.profiles)) (map.entries c.args.waiting.now))) c.loop-key.upper.joined.active.endpoints) c.in-Some.ensures.steps i.serving in
    record {
      index = s.index ∙ i.index;
      pairs = s.pairs ∙ i.pairs;
      active = s.active
          ∙ ap (λ (a : active.Inputs). record a { endpoints = map.insert a.endpoints c.in-Some.key.now c.as_slice.result.now }) i.active
          ∙ ap (λ (m : Served). record c.args.upper.now.joined.active { endpoints = m }) (sym (ap (λ (a : active.Inputs). a.endpoints) s.active));
      serving = serving_next _ _ _ _ here _ (ap (λ (a : active.Inputs). a.endpoints) s.active ∙ ap (λ ps. map.insert c.loop-key.upper.joined.active.endpoints c.in-Some.key.now ps) c.as_slice.ensures);
      some = (i.some.0, s.upper i.some.0 i.some.1);
      upper = λ used u. s.upper used (i.upper used u);
    }

pub returns-clause-active : goal.returns-clause-active
returns-clause-active g c =
    let old = c.args.upper.now.joined.active.endpoints in
    let none = subst (IsServing (extended old (each (λ x. (x.0, x.1.profiles)) (map.entries c.args.waiting.now))) c.loop-key.upper.joined.active.endpoints) c.in-None.ensures.steps.0 c.loop-key.invariant.serving in
    c.loop-key.invariant.active ∙ ap (λ (m : Served). record c.args.upper.now.joined.active { endpoints = m }) (serving_last _ _ none)

pub returns-clause-composed : goal.returns-clause-composed
returns-clause-composed g c = composed _ _ _ _ _ c.loop-key.invariant.some.1
