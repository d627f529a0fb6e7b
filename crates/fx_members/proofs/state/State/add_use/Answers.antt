use Rattle.std.proofs.Common.{◌≡◌, ◌&&◌, true, cond, None, ap, sym, ◌∙◌, subst}
use Rattle.std.specs.FinMap as map
use Rattle.fx_model.specs.Sinks.{Uses}
use Rattle.fx_members.specs.Counts.{due, HaveSameKeys}
use Rattle.fx_base.specs.Grouped.{has_key, same_text}
use Rattle.fx_members.specs.Indexes.{AreByText}
use Rattle.fx_members.proofs.NodeLemmas.{use_counted, use_put, by_text_added}
use Rattle.fx_members.proofs.TellLemmas.{told_set_on}
use Rattle.fx_members.proofs.UseLemmas.{set_absent, put_there, named_put}
use Rattle.fx_members.proofs.state.State.add_use.Goals as goal
use Rattle.fx_base.proofs.Cases.{absent_value}

pub set_on-requires : goal.set_on-requires
set_on-requires g c = set_absent c.args.self.now.inputs.uses (g.S.SetSink.sets c.args.sink.now) c.args.name c.requires.told.named c.requires.absent

pub change_set-requires-clause-there : goal.change_set-requires-clause-there
change_set-requires-clause-there g c = put_there (g.S.SetSink.sets c.args.sink.now) (g.S.SetSink.sets c.set_on.new.self) c.args.name c.in_ok-set_on.ensures

pub change_set-requires-clause-counted : goal.change_set-requires-clause-counted
change_set-requires-clause-counted g c = λ m.
    let s = c.args.self.now in
    use_counted s.inputs.items s.inputs.matched s.inputs.uses c.args.name s.counts s.counts c.requires.kept.counted None c.requires.absent m

pub change_set-requires-clause-told : goal.change_set-requires-clause-told
change_set-requires-clause-told g c =
    let s = c.args.self.now in
    let sets = g.S.SetSink.sets c.args.sink.now in
    told_set_on sets c.args.name s.counts (g.S.SetSink.sets c.set_on.new.self)
    (absent_value _ (set_absent s.inputs.uses sets c.args.name c.requires.told.named c.requires.absent)) c.in_ok-set_on.ensures c.requires.told.told

pub returns-clause-inputs : goal.returns-clause-inputs
returns-clause-inputs g c =
    let n = c.args.self.now.inputs in
    λ j. record n { uses = (c.in_ok-insert.ensures.ok ∙ ap (map.insert n.uses c.args.name) c.in_ok-clone.ensures.cases) j }

pub returns-clause-kept : goal.returns-clause-kept
returns-clause-kept g c =
    let s = c.args.self.now in
    let n = s.inputs in
    let set = c.args.set.now in
    let uses : c.insert.new.self ≡ map.insert n.uses c.args.name set = c.in_ok-insert.ensures.ok ∙ ap (map.insert n.uses c.args.name) c.in_ok-clone.ensures.cases in
    record {
      by_text = subst (λ (u : Uses). AreByText c.add_name.new.names u) (sym uses)
          (by_text_added s.names c.add_name.new.names n.uses c.requires.kept.by_text c.args.name set c.requires.absent
          (λ t q. c.in_ok-add_name.ensures t q ∙ ap (λ v. cond (same_text t v && same_text q c.args.name) true (has_key (map.get s.names t) q)) c.in_ok-text.ensures.text));
      by_item = c.requires.kept.by_item;
      counted = λ q m.
          use_put n.items n.matched n.uses c.args.name s.counts c.change_set.new.counts c.requires.kept.counted set c.in_ok-change_set.ensures.counts q m
          ∙ ap (λ (u : Uses). due n.items n.matched (map.get u q) m) (sym uses);
    }

pub returns-clause-told : goal.returns-clause-told
returns-clause-told g c =
    let n = c.args.self.now.inputs in
    let set = c.args.set.now in
    let now = g.S.SetSink.sets c.change_set.new.sink in
    let uses : c.insert.new.self ≡ map.insert n.uses c.args.name set = c.in_ok-insert.ensures.ok ∙ ap (map.insert n.uses c.args.name) c.in_ok-clone.ensures.cases in
    record {
      named = subst (λ (u : Uses). HaveSameKeys u now) (sym uses)
          (named_put n.uses (g.S.SetSink.sets c.args.sink.now) c.args.name c.requires.told.named set (g.S.SetSink.sets c.set_on.new.self) now c.in_ok-set_on.ensures c.in_ok-change_set.ensures.keys);
      told = c.in_ok-change_set.ensures.told;
    }
