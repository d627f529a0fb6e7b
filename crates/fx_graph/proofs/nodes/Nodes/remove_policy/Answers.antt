use Rattle.std.proofs.Common.{sym, ◌∙◌, subst, ap}
use Rattle.std.specs.FinMap as map
use Rattle.fx_label_index.specs.Tested.{IsTested}
use Rattle.fx_label_index.proofs.Sums.{self_tested}
use Rattle.fx_graph_rules.specs.Composed.{IsComposed}
use Rattle.fx_graph_rules.specs.Counting.{with_some, IsCountedText}
use Rattle.fx_graph_rules.proofs.Counts.{policy_text_counted}
use Rattle.fx_graph_rules.specs.Uppers.{AreInStep}
use Rattle.fx_graph.specs.Used.{used_in}
use Rattle.fx_graph.specs.Taking.{taken_of}
use Rattle.fx_graph.proofs.Kept.{ahead, no_changes}
use Rattle.fx_graph.proofs.Testing.{sets_counted}
use Rattle.fx_graph.proofs.nodes.Nodes.remove_policy.Goals as goal

pub remove_policy-requires : goal.remove_policy-requires
remove_policy-requires g c =
    (used_in c.args.self.now.uses, subst (λ t. AreInStep c.args.self.now.upper.joined (used_in c.args.self.now.uses) t.policies t.profiles t.pairs) (sym (c.new-log.ensures ∙ c.replace-told.ensures.value)) c.requires.settled.upper)

pub settle-requires-clause-ahead : goal.settle-requires-clause-ahead
settle-requires-clause-ahead g c =
    let first = subst (λ t. AreInStep c.args.self.now.upper.joined (used_in c.args.self.now.uses) t.policies t.profiles t.pairs) (sym (c.new-log.ensures ∙ c.replace-told.ensures.value)) c.requires.settled.upper in (
      c.in_ok-before.before,
      ahead g.R.DigestRule.digest_of c.args.self.now c.requires.settled g.K.ActiveStart.told_then c.into_logged.result c.requires.start c.into_logged.ensures.since c.in_ok-before.before _ _ _
          (subst (λ l. AreInStep c.remove_policy.new.self.joined (with_some c.in_ok-before.before (used_in c.args.self.now.uses)) l.told.policies l.told.profiles l.told.pairs) (sym c.into_logged.ensures.logged) (c.in_ok-before.ensures.upper (used_in c.args.self.now.uses) first))
          (no_changes _ c.new-changes.ensures _ _ (sym c.in_ok-before.ensures.pairs)),
    )

pub settle-requires-clause-apart : goal.settle-requires-clause-apart
settle-requires-clause-apart g c =
    let i = c.in_ok-before.ensures.index in
    let a = c.in_ok-before.ensures.active in
    c.requires.apart _ _ _ _ _ (λ j. (i j).items) (λ j. (i j).parents) (λ j. (a j).policies) (λ j. (a j).profiles) (λ j. (a j).endpoints)
    (subst (λ l. IsComposed c.remove_policy.new.self.joined.index c.remove_policy.new.self.joined.active l.told.policies l.told.profiles l.told.pairs) (sym c.into_logged.ensures.logged) c.in_ok-before.ensures.composed)

pub returns-clause-taken : goal.returns-clause-taken
returns-clause-taken g c =
    let i = c.in_ok-before.ensures.index in
    let a = c.in_ok-before.ensures.active in
    c.in_ok-forget.ensures.taken ∙ c.in_ok-settle.ensures.taken
    ∙ (λ j. record (taken_of c.args.self.now) { items = (i j).items; parents = (i j).parents; policies = (a j).policies; profiles = (a j).profiles; endpoints = (a j).endpoints })

pub forget-requires : goal.forget-requires
forget-requires g c =
    let first = subst (λ t. AreInStep c.args.self.now.upper.joined (used_in c.args.self.now.uses) t.policies t.profiles t.pairs) (sym (c.new-log.ensures ∙ c.replace-told.ensures.value)) c.requires.settled.upper in
    c.in_ok-settle.ensures.settled c.in_ok-before.before
    (ahead g.R.DigestRule.digest_of c.args.self.now c.requires.settled g.K.ActiveStart.told_then c.into_logged.result c.requires.start c.into_logged.ensures.since c.in_ok-before.before _ _ _
    (subst (λ l. AreInStep c.remove_policy.new.self.joined (with_some c.in_ok-before.before (used_in c.args.self.now.uses)) l.told.policies l.told.profiles l.told.pairs) (sym c.into_logged.ensures.logged) (c.in_ok-before.ensures.upper (used_in c.args.self.now.uses) first))
    (no_changes _ c.new-changes.ensures _ _ (sym c.in_ok-before.ensures.pairs)))

pub returns-clause-tests : goal.returns-clause-tests
returns-clause-tests g c =
    let first = c.args.self.now.upper.joined in
    let m = g.T.Ticker.number c.args.ticks.now in
    let counted = c.requires.settled.upper.counted in
    let e = c.in_ok-before.ensures in
    c.in_ok-forget.ensures.tests first.index m
    (subst (IsCountedText first.index.selectors) (sym e.before) (policy_text_counted first.index.selectors first.active.policies (used_in c.args.self.now.uses) counted c.args.id.now))
    (c.in_ok-settle.ensures.tests first.index m (sets_counted first.index.selectors first.active.policies c.args.self.now.uses counted)
    (λ t there. ap (λ n. map.contains_key n.selectors t) e.index ∙ there) (subst (λ n. IsTested first.index n m m) (sym e.index) (self_tested first.index m)))
