use Rattle.std.proofs.Common.{◌≡◌, true, false, sym, ◌∙◌}
use Rattle.std.specs.FinMap as map
use Rattle.fx_base.specs.Set as set
use Rattle.fx_active.specs.Active.{text_of}
use Rattle.fx_active.specs.Steps.{selects, holds_of}
use Rattle.fx_active.proofs.Updates.{policies_grown, pairs_grown, policies_stay, pairs_stay}
use Rattle.fx_active.proofs.Larger.{endpoint_more, endpoint_test, again_holds, again_pairs}
use Rattle.fx_active.proofs.changes.tell_endpoint.Goals as goal

pub returns-in_ok-update_endpoint-clause-policies : goal.returns-in_ok-update_endpoint-clause-policies
returns-in_ok-update_endpoint-clause-policies g c = λ names.
    let E = c.args.held.now.endpoints in
    let M = c.args.held.now.matched in
    let key = c.args.key.now in
    let none : map.contains_key E key ≡ false = sym c.contains_endpoint.ensures ∙ c.if-not-contains_endpoint.true in
    policies_grown E M (map.insert E key names) M key (λ p. set.contains M (text_of p, key)) (endpoint_more E M key names none) (selects M key) (holds_of E M) (endpoint_test E M key)
    c.args.held.now.policies (g.S.ActiveSink.policies c.args.sink.now) (g.S.ActiveSink.pairs c.args.sink.now) c.requires.policies c.requires.pairs
    (g.S.ActiveSink.policies c.update_endpoint.new.sink) (g.S.ActiveSink.pairs c.update_endpoint.new.sink) c.in_ok-update_endpoint.ensures.updated

pub returns-in_ok-update_endpoint-clause-pairs : goal.returns-in_ok-update_endpoint-clause-pairs
returns-in_ok-update_endpoint-clause-pairs g c = λ names.
    let E = c.args.held.now.endpoints in
    let M = c.args.held.now.matched in
    let key = c.args.key.now in
    let none : map.contains_key E key ≡ false = sym c.contains_endpoint.ensures ∙ c.if-not-contains_endpoint.true in
    pairs_grown E M (map.insert E key names) M key (λ p. set.contains M (text_of p, key)) (endpoint_more E M key names none) (selects M key) (holds_of E M) (endpoint_test E M key)
    c.args.held.now.policies (g.S.ActiveSink.policies c.args.sink.now) (g.S.ActiveSink.pairs c.args.sink.now) c.requires.policies c.requires.pairs
    (g.S.ActiveSink.policies c.update_endpoint.new.sink) (g.S.ActiveSink.pairs c.update_endpoint.new.sink) c.in_ok-update_endpoint.ensures.updated

pub returns-else-not-contains_endpoint-clause-policies : goal.returns-else-not-contains_endpoint-clause-policies
returns-else-not-contains_endpoint-clause-policies g c = λ names.
    let E = c.args.held.now.endpoints in
    let M = c.args.held.now.matched in
    let key = c.args.key.now in
    let is : map.contains_key E key ≡ true = sym c.contains_endpoint.ensures ∙ c.if-not-contains_endpoint.false in
    policies_stay E (map.insert E key names) M M (again_holds E M key names is) (again_pairs E M key names is) c.args.held.now.policies (g.S.ActiveSink.policies c.args.sink.now) c.requires.policies

pub returns-else-not-contains_endpoint-clause-pairs : goal.returns-else-not-contains_endpoint-clause-pairs
returns-else-not-contains_endpoint-clause-pairs g c = λ names.
    let E = c.args.held.now.endpoints in
    let M = c.args.held.now.matched in
    let key = c.args.key.now in
    let is : map.contains_key E key ≡ true = sym c.contains_endpoint.ensures ∙ c.if-not-contains_endpoint.false in
    pairs_stay E (map.insert E key names) M M (again_holds E M key names is) (again_pairs E M key names is) c.args.held.now.policies (g.S.ActiveSink.pairs c.args.sink.now) c.requires.pairs
