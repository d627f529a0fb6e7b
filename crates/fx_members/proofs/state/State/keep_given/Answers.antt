use Rattle.std.proofs.Common.{◌≡◌, ap, sym, ◌∙◌}
use Rattle.std.specs.FinMap as map
use Rattle.fx_model.specs.SameIds.{copies_item}
use Rattle.fx_members.specs.Counts.{due}
use Rattle.fx_members.specs.Inputs.{Items}
use Rattle.fx_members.proofs.NodeLemmas.{item_kept}
use Rattle.fx_members.proofs.state.State.keep_given.Goals as goal

pub returns-clause-inputs : goal.returns-clause-inputs
returns-clause-inputs c =
    let n = c.args.self.now.inputs in
    λ j. record n { items = (c.in_ok-insert.ensures.ok ∙ ap (λ k. map.insert n.items k c.args.item) (copies_item _ _ c.in_ok-clone.ensures.cases)) j }

pub returns-clause-kept : goal.returns-clause-kept
returns-clause-kept c =
    let s = c.args.self.now in
    let n = s.inputs in
    let k = c.args.key.now in
    let items : c.insert.new.self ≡ map.insert n.items k c.args.item = c.in_ok-insert.ensures.ok ∙ ap (λ i. map.insert n.items i c.args.item) (copies_item _ _ c.in_ok-clone.ensures.cases) in
    record {
      by_text = c.requires.kept.by_text;
      by_item = c.requires.kept.by_item;
      counted = λ q m.
          item_kept n.items n.matched k (map.get s.texts k) (c.requires.kept.by_item k) n.uses s.counts c.requires.kept.counted c.args.item c.requires.same q m
          ∙ ap (λ (xs : Items). due xs n.matched (map.get n.uses q) m) (sym items);
    }

pub returns-clause-told : goal.returns-clause-told
returns-clause-told c = λ sets told. record { named = told.named; told = told.told }
