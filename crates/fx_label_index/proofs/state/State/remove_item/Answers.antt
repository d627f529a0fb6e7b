use Rattle.std.proofs.Common.{refl, sym, ◌∙◌, subst}
use Rattle.std.specs.FinMap as map
use Rattle.fx_label_index.specs.Tested.{IsTested}
use Rattle.fx_label_index.proofs.Gaining.{gained_none, gone_item}
use Rattle.fx_label_index.proofs.Sums.{item_gone_tested}
use Rattle.fx_label_index.proofs.Indexing.{told_of, matched_of}
use Rattle.fx_label_index.proofs.Labelling.{effective_gone}
use Rattle.fx_label_index.proofs.state.State.remove_item.Goals as goal

pub forget-requires-clause-told : goal.forget-requires-clause-told
forget-requires-clause-told g c = told_of c.args.self.now c.args.self.now.inputs (g.S.MatchSink.pairs c.args.sink.now) c.requires.indexed refl c.requires.matched

pub returns-clause-indexed : goal.returns-clause-indexed
returns-clause-indexed g c = record {
  kept = c.in_ok-forget.ensures.kept c.args.self.now.inputs.selectors c.requires.indexed.kept;
  labels = effective_gone c.args.self.now.indexes.labels (map.get c.args.self.now.inputs.parents) c.args.self.now.inputs.items c.args.key.now c.requires.indexed.labels
      c.forget.new.self.labels c.unlist.new.items c.in_ok-forget.ensures.labels c.in_ok-unlist.ensures.items;
  listed = c.in_ok-unlist.ensures.listed;
}

pub returns-clause-matched : goal.returns-clause-matched
returns-clause-matched g c = matched_of _ _ (returns-clause-indexed g c) c.in_ok-forget.ensures.told

pub returns-clause-tests : goal.returns-clause-tests
returns-clause-tests g c = λ n.
    let a = c.args.self.now.inputs in
    subst (λ m. IsTested a (record a { items = m }) n n) (sym c.in_ok-unlist.ensures.items) (item_gone_tested a c.args.key.now n)

pub returns-clause-gained : goal.returns-clause-gained
returns-clause-gained g c =
    let a = c.args.self.now.inputs in
    gained_none (g.S.MatchSink.pairs c.args.sink.now) (g.S.MatchSink.pairs c.forget.new.sink) (λ p h.
    c.requires.matched p.0 p.1
    ∙ gone_item (map.get a.parents) a.items c.unlist.new.items a.selectors c.args.key.now c.in_ok-unlist.ensures.items p.0 p.1 (sym (returns-clause-matched g c p.0 p.1) ∙ h))
