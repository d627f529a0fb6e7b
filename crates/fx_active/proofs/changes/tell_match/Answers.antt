use Rattle.std.proofs.Common.{sym, ◌∙◌}
use Rattle.fx_active.proofs.MatchLemmas.{idle_policies, idle_rows, match_pair, match_policy, match_policies, match_rows}
use Rattle.fx_active.proofs.changes.tell_match.Goals as goal

pub update_with_text-requires-clause-pairs : goal.update_with_text-requires-clause-pairs
update_with_text-requires-clause-pairs g c =
    match_pair c.args.held.now.policies c.args.held.now.endpoints c.args.held.now.matched c.args.selector.now c.args.item.now (g.S.ActiveSink.policies c.args.sink.now) (g.S.ActiveSink.pairs c.args.sink.now)
    (sym c.contains_endpoint.ensures ∙ c.if-contains_endpoint.true) c.requires.absent c.holds_somewhere-others.result c.holds_somewhere-others.ensures c.args.added c.requires.policies c.requires.pairs

pub update_with_text-requires-clause-policies : goal.update_with_text-requires-clause-policies
update_with_text-requires-clause-policies g c =
    match_policy c.args.held.now.policies c.args.held.now.endpoints c.args.held.now.matched c.args.selector.now c.args.item.now (g.S.ActiveSink.policies c.args.sink.now) (g.S.ActiveSink.pairs c.args.sink.now)
    (sym c.contains_endpoint.ensures ∙ c.if-contains_endpoint.true) c.requires.absent c.holds_somewhere-others.result c.holds_somewhere-others.ensures c.args.added c.requires.policies c.requires.pairs

pub returns-in_ok-update_with_text-clause-policies : goal.returns-in_ok-update_with_text-clause-policies
returns-in_ok-update_with_text-clause-policies g c =
    match_policies c.args.held.now.policies c.args.held.now.endpoints c.args.held.now.matched c.args.selector.now c.args.item.now (g.S.ActiveSink.policies c.args.sink.now) (g.S.ActiveSink.pairs c.args.sink.now)
    (sym c.contains_endpoint.ensures ∙ c.if-contains_endpoint.true) c.requires.absent c.holds_somewhere-others.result c.holds_somewhere-others.ensures
    (g.S.ActiveSink.policies c.update_with_text.new.sink) (g.S.ActiveSink.pairs c.update_with_text.new.sink) c.args.added c.requires.policies c.requires.pairs c.in_ok-update_with_text.ensures.updated

pub returns-in_ok-update_with_text-clause-pairs : goal.returns-in_ok-update_with_text-clause-pairs
returns-in_ok-update_with_text-clause-pairs g c =
    match_rows c.args.held.now.policies c.args.held.now.endpoints c.args.held.now.matched c.args.selector.now c.args.item.now (g.S.ActiveSink.policies c.args.sink.now) (g.S.ActiveSink.pairs c.args.sink.now)
    (sym c.contains_endpoint.ensures ∙ c.if-contains_endpoint.true) c.requires.absent c.holds_somewhere-others.result c.holds_somewhere-others.ensures
    (g.S.ActiveSink.policies c.update_with_text.new.sink) (g.S.ActiveSink.pairs c.update_with_text.new.sink) c.args.added c.requires.policies c.requires.pairs c.in_ok-update_with_text.ensures.updated

pub returns-else-contains_endpoint-clause-policies : goal.returns-else-contains_endpoint-clause-policies
returns-else-contains_endpoint-clause-policies g c =
    idle_policies c.args.held.now.policies c.args.held.now.endpoints c.args.held.now.matched c.args.selector.now c.args.item.now (g.S.ActiveSink.policies c.args.sink.now) (g.S.ActiveSink.pairs c.args.sink.now)
    (sym c.contains_endpoint.ensures ∙ c.if-contains_endpoint.false) c.args.added c.requires.policies

pub returns-else-contains_endpoint-clause-pairs : goal.returns-else-contains_endpoint-clause-pairs
returns-else-contains_endpoint-clause-pairs g c =
    idle_rows c.args.held.now.policies c.args.held.now.endpoints c.args.held.now.matched c.args.selector.now c.args.item.now (g.S.ActiveSink.policies c.args.sink.now) (g.S.ActiveSink.pairs c.args.sink.now)
    (sym c.contains_endpoint.ensures ∙ c.if-contains_endpoint.false) c.args.added c.requires.pairs
