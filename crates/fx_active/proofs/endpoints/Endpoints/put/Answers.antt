use Rattle.std.proofs.Common.{◌≡◌, unwrap_or, ap, sym, ◌∙◌, subst}
use Rattle.std.specs.FinMap as map
use Rattle.fx_model.specs.SameIds.{copies_item}
use Rattle.fx_model.proofs.Orders.{item_total, exact_item}
use Rattle.fx_active.specs.Active.{AreProfiles}
use Rattle.fx_active.specs.Indexes.{count_at, times_listed, AreCounts}
use Rattle.fx_base.proofs.AtKey.{insert_removed}
use Rattle.fx_active.proofs.EndpointLemmas.{counted_from_listed, listed_from_counted, listed_among, counts_put}
use Rattle.fx_active.proofs.endpoints.Endpoints.put.Goals as goal

pub list-requires : goal.list-requires
list-requires g c =
    let Q = g.S.ActiveSink.profiles c.args.sink.now in
    let m = c.replace-held.result in
    let counts = c.replace-listings.result in
    let are : AreCounts counts m = λ q. ap (λ n. count_at n q) c.replace-listings.ensures.value ∙ c.self.invariant q ∙ ap (λ n. times_listed (map.entries n) q) (sym c.replace-held.ensures.value) in
    counted_from_listed counts m are c.args.profiles.now Q (subst (λ n. AreProfiles c.args.profiles.now n Q) (sym (c.replace-held.ensures.value ∙ c.self.view_is)) c.requires)

pub unlist-requires-clause-counts : goal.unlist-requires-clause-counts
unlist-requires-clause-counts g c =
    let m = c.replace-held.result in
    let counts = c.replace-listings.result in
    let are : AreCounts counts m = λ q. ap (λ n. count_at n q) c.replace-listings.ensures.value ∙ c.self.invariant q ∙ ap (λ n. times_listed (map.entries n) q) (sym c.replace-held.ensures.value) in
    listed_among m counts are c.args.key.now c.as_slice.result.now
    (c.as_slice.ensures ∙ c.unwrap_or-before.ensures ∙ (λ j. unwrap_or (c.remove.ensures.before j) (c.new-3.ensures j)))
    c.args.names.now c.list.new.self c.in_ok-list.ensures.counts

pub invariant_of-self-2 : goal.invariant_of-self-2
invariant_of-self-2 g c =
    let m = c.replace-held.result in
    let counts = c.replace-listings.result in
    let are : AreCounts counts m = λ q. ap (λ n. count_at n q) c.replace-listings.ensures.value ∙ c.self.invariant q ∙ ap (λ n. times_listed (map.entries n) q) (sym c.replace-held.ensures.value) in
    let now : c.insert.new.self ≡ map.insert (map.remove m c.args.key.now) c.args.key.now c.args.names.now =
    c.in_ok-insert.ensures.ok ∙ (λ j. map.insert (c.remove.ensures.removed j) (copies_item _ _ c.in_ok-own_key.ensures.cases j) ((c.from_vec-own_names.ensures ∙ c.in_ok-from_clones.ensures.items_if_clones_equal (λ x y h. h)) j)) in
    subst (λ n. AreCounts c.unlist.new.self n) (sym now) (counts_put m counts are c.args.key.now c.as_slice.result.now
    (c.as_slice.ensures ∙ c.unwrap_or-before.ensures ∙ (λ j. unwrap_or (c.remove.ensures.before j) (c.new-3.ensures j)))
    c.args.names.now c.list.new.self c.in_ok-list.ensures.counts c.unlist.new.self c.in_ok-unlist.ensures.counts)

pub returns-clause-endpoints : goal.returns-clause-endpoints
returns-clause-endpoints g c =
    c.in_ok-insert.ensures.ok ∙ (λ j. map.insert (c.remove.ensures.removed j) (copies_item _ _ c.in_ok-own_key.ensures.cases j) ((c.from_vec-own_names.ensures ∙ c.in_ok-from_clones.ensures.items_if_clones_equal (λ x y h. h)) j))
    ∙ insert_removed item_total exact_item c.replace-held.result c.args.key.now c.args.names.now
    ∙ ap (λ n. map.insert n c.args.key.now c.args.names.now) (c.replace-held.ensures.value ∙ c.self.view_is)

pub returns-clause-profiles : goal.returns-clause-profiles
returns-clause-profiles g c =
    listed_from_counted c.unlist.new.self c.insert.new.self (invariant_of-self-2 g c) c.args.profiles.now (g.S.ActiveSink.profiles c.unlist.new.sink) c.in_ok-unlist.ensures.profiles
