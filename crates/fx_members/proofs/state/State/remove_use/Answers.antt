use Rattle.std.proofs.Common.{◌≡◌, ◌&&◌, false, cond, Some, ap, sym, ◌∙◌, subst}
use Rattle.std.specs.Cmp.Lexicographic.{nat_list_cmp_total}
use Rattle.std.specs.FinMap as map
use Rattle.fx_base.specs.Set as set
use Rattle.fx_base.specs.Grouped.{has_key, same_text}
use Rattle.fx_base.proofs.KeyCases.{bytes_exact}
use Rattle.fx_base.proofs.Keyed.{remove_absent}
use Rattle.fx_model.specs.Sinks.{Uses}
use Rattle.fx_members.specs.Counts.{count_at, due, HaveSameKeys}
use Rattle.fx_members.specs.Indexes.{AreByText}
use Rattle.fx_members.proofs.NodeLemmas.{use_counted, use_gone, by_text_removed}
use Rattle.fx_members.proofs.TellLemmas.{told_set_off}
use Rattle.fx_members.proofs.UseLemmas.{set_there, set_empty, own_counts, named_gone}
use Rattle.fx_members.proofs.state.State.remove_use.Goals as goal

pub returns-in_default-clause-kept : goal.returns-in_default-clause-kept
returns-in_default-clause-kept g c =
    let s = c.args.self.now in
    let n = s.inputs in
    let same : c.remove.new.self ≡ n.uses =
    c.remove.ensures.removed ∙ remove_absent nat_list_cmp_total bytes_exact n.uses c.args.name (sym c.remove.ensures.before ∙ c.in_default.is) in
    record {
      by_text = subst (λ (u : Uses). AreByText s.names u) (sym same) c.requires.kept.by_text;
      by_item = c.requires.kept.by_item;
      counted = λ q m. c.requires.kept.counted q m ∙ ap (λ (u : Uses). due n.items n.matched (map.get u q) m) (sym same);
    }

pub returns-in_default-clause-told : goal.returns-in_default-clause-told
returns-in_default-clause-told g c =
    let n = c.args.self.now.inputs in
    let same : c.remove.new.self ≡ n.uses =
    c.remove.ensures.removed ∙ remove_absent nat_list_cmp_total bytes_exact n.uses c.args.name (sym c.remove.ensures.before ∙ c.in_default.is) in
    record {
      named = subst (λ (u : Uses). HaveSameKeys u (g.S.SetSink.sets c.args.sink.now)) (sym same) c.requires.told.named;
      told = c.requires.told.told;
    }

pub change_set-requires-clause-there : goal.change_set-requires-clause-there
change_set-requires-clause-there g c =
    set_there c.args.self.now.inputs.uses (g.S.SetSink.sets c.args.sink.now) c.args.name c.requires.told.named c.in-Some.set (sym c.remove.ensures.before ∙ c.in-Some.is)

pub change_set-requires-clause-counted : goal.change_set-requires-clause-counted
change_set-requires-clause-counted g c = λ m.
    let s = c.args.self.now in
    use_counted s.inputs.items s.inputs.matched s.inputs.uses c.args.name s.counts s.counts c.requires.kept.counted (Some c.in-Some.set) (sym c.remove.ensures.before ∙ c.in-Some.is) m

pub set_off-requires : goal.set_off-requires
set_off-requires g c =
    let s = c.args.self.now in
    let sets = g.S.SetSink.sets c.args.sink.now in
    let is = c.in_ok-change_set.ensures in
    set_empty c.change_set.new.counts (g.S.SetSink.sets c.change_set.new.sink) c.args.name
    (is.keys c.args.name ∙ set_there s.inputs.uses sets c.args.name c.requires.told.named c.in-Some.set (sym c.remove.ensures.before ∙ c.in-Some.is))
    is.told (own_counts c.change_set.new.counts c.args.name (λ _. 0) (count_at s.counts) is.counts)

pub returns-clause-kept : goal.returns-clause-kept
returns-clause-kept g c =
    let s = c.args.self.now in
    let n = s.inputs in
    let uses : c.remove.new.self ≡ map.remove n.uses c.args.name = c.remove.ensures.removed in
    record {
      by_text = subst (λ (u : Uses). AreByText c.remove_name.new.names u) (sym uses)
          (by_text_removed s.names c.remove_name.new.names n.uses c.requires.kept.by_text c.args.name c.in-Some.set (sym c.remove.ensures.before ∙ c.in-Some.is)
          (λ t q. c.in_ok-remove_name.ensures t q ∙ ap (λ v. cond (same_text t v && same_text q c.args.name) false (has_key (map.get s.names t) q)) c.in_ok-text.ensures.text));
      by_item = c.requires.kept.by_item;
      counted = λ q m.
          use_gone n.items n.matched n.uses c.args.name s.counts c.change_set.new.counts c.requires.kept.counted c.in_ok-change_set.ensures.counts q m
          ∙ ap (λ (u : Uses). due n.items n.matched (map.get u q) m) (sym uses);
    }

pub returns-clause-told : goal.returns-clause-told
returns-clause-told g c =
    let s = c.args.self.now in
    let n = s.inputs in
    let is = c.in_ok-change_set.ensures in
    let then = g.S.SetSink.sets c.change_set.new.sink in
    let now = g.S.SetSink.sets c.set_off.new.self in
    let uses : c.remove.new.self ≡ map.remove n.uses c.args.name = c.remove.ensures.removed in
    let sets = g.S.SetSink.sets c.args.sink.now in
    let empty : map.get then c.args.name ≡ Some set.empty = set_empty c.change_set.new.counts then c.args.name
    (is.keys c.args.name ∙ set_there n.uses sets c.args.name c.requires.told.named c.in-Some.set (sym c.remove.ensures.before ∙ c.in-Some.is))
    is.told (own_counts c.change_set.new.counts c.args.name (λ _. 0) (count_at s.counts) is.counts) in
    record {
      named = subst (λ (u : Uses). HaveSameKeys u now) (sym uses)
          (named_gone n.uses (g.S.SetSink.sets c.args.sink.now) c.args.name c.requires.told.named then now is.keys c.in_ok-set_off.ensures);
      told = told_set_off then c.args.name c.change_set.new.counts now empty c.in_ok-set_off.ensures is.told;
    }
