use Rattle.std.proofs.Common.{None, sym, ◌∙◌, subst, ap}
use Rattle.std.specs.FinMap as map
use Rattle.fx_graph_rules.specs.Composed.{IsComposed}
use Rattle.fx_graph_rules.specs.Counting.{with_some}
use Rattle.fx_graph_rules.specs.Uppers.{AreInStep}
use Rattle.fx_graph.specs.Used.{used_in}
use Rattle.fx_graph.specs.Taking.{taken_of}
use Rattle.fx_graph.proofs.Kept.{ahead}
use Rattle.fx_graph.proofs.Testing.{sets_counted}
use Rattle.fx_graph.proofs.nodes.Nodes.label_other.Goals as goal

pub put_other-requires : goal.put_other-requires
put_other-requires g c =
    (used_in c.args.self.now.uses, subst (λ t. AreInStep c.args.self.now.upper.joined (used_in c.args.self.now.uses) t.policies t.profiles t.pairs) (sym (c.new-log.ensures ∙ c.replace-told.ensures.value)) c.requires.settled.upper)

pub settle-requires-clause-ahead : goal.settle-requires-clause-ahead
settle-requires-clause-ahead g c =
    let first = subst (λ t. AreInStep c.args.self.now.upper.joined (used_in c.args.self.now.uses) t.policies t.profiles t.pairs) (sym (c.new-log.ensures ∙ c.replace-told.ensures.value)) c.requires.settled.upper in (
      None,
      ahead g.R.DigestRule.digest_of c.args.self.now c.requires.settled g.K.ActiveStart.told_then c.into_logged.result c.requires.start c.into_logged.ensures.since None _ _ _
          (subst (λ l. AreInStep c.put_other.new.self.joined (with_some None (used_in c.args.self.now.uses)) l.told.policies l.told.profiles l.told.pairs) (sym c.into_logged.ensures.logged) (c.in_ok-changes.ensures.upper (used_in c.args.self.now.uses) first))
          c.in_ok-changes.ensures.changes,
    )

pub settle-requires-clause-apart : goal.settle-requires-clause-apart
settle-requires-clause-apart g c =
    let i = c.in_ok-changes.ensures.index in
    let a = c.in_ok-changes.ensures.active in
    c.requires.apart _ _ _ _ _ (λ j. (i j).items) (λ j. (i j).parents) (λ j. (a j).policies) (λ j. (a j).profiles) (λ j. (a j).endpoints)
    (subst (λ l. IsComposed c.put_other.new.self.joined.index c.put_other.new.self.joined.active l.told.policies l.told.profiles l.told.pairs) (sym c.into_logged.ensures.logged) c.in_ok-changes.ensures.composed)

pub returns-clause-taken : goal.returns-clause-taken
returns-clause-taken g c =
    let i = c.in_ok-changes.ensures.index in
    let a = c.in_ok-changes.ensures.active in
    c.in_ok-settle.ensures.taken
    ∙ (λ j. record (taken_of c.args.self.now) { items = (i j).items; parents = (i j).parents; policies = (a j).policies; profiles = (a j).profiles; endpoints = (a j).endpoints })

pub returns-clause-settled : goal.returns-clause-settled
returns-clause-settled g c =
    let first = subst (λ t. AreInStep c.args.self.now.upper.joined (used_in c.args.self.now.uses) t.policies t.profiles t.pairs) (sym (c.new-log.ensures ∙ c.replace-told.ensures.value)) c.requires.settled.upper in
    c.in_ok-settle.ensures.settled None
    (ahead g.R.DigestRule.digest_of c.args.self.now c.requires.settled g.K.ActiveStart.told_then c.into_logged.result c.requires.start c.into_logged.ensures.since None _ _ _
    (subst (λ l. AreInStep c.put_other.new.self.joined (with_some None (used_in c.args.self.now.uses)) l.told.policies l.told.profiles l.told.pairs) (sym c.into_logged.ensures.logged) (c.in_ok-changes.ensures.upper (used_in c.args.self.now.uses) first))
    c.in_ok-changes.ensures.changes)

pub returns-clause-tests : goal.returns-clause-tests
returns-clause-tests g c =
    let first = c.args.self.now.upper.joined in
    let e = c.in_ok-changes.ensures in
    c.in_ok-settle.ensures.tests first.index _ (sets_counted first.index.selectors first.active.policies c.args.self.now.uses c.requires.settled.upper.counted)
    (λ t there. ap (λ n. map.contains_key n.selectors t) e.index ∙ there) e.tests
