use Rattle.std.proofs.Common.{unwrap_or, ap, sym, ◌∙◌, subst}
use Rattle.std.specs.FinMap as map
use Rattle.fx_active.specs.Active.{AreProfiles}
use Rattle.fx_active.specs.Indexes.{count_at, times_listed, AreCounts}
use Rattle.fx_active.proofs.EndpointLemmas.{counted_from_listed, listed_from_counted, listed_before, counts_removed}
use Rattle.fx_active.proofs.endpoints.Endpoints.remove.Goals as goal

pub unlist-requires-clause-profiles : goal.unlist-requires-clause-profiles
unlist-requires-clause-profiles g c =
    let Q = g.S.ActiveSink.profiles c.args.sink.now in
    let m = c.replace-held.result in
    let counts = c.replace-listings.result in
    let are : AreCounts counts m = λ q. ap (λ n. count_at n q) c.replace-listings.ensures.value ∙ c.self.invariant q ∙ ap (λ n. times_listed (map.entries n) q) (sym c.replace-held.ensures.value) in
    counted_from_listed counts m are c.args.profiles.now Q (subst (λ n. AreProfiles c.args.profiles.now n Q) (sym (c.replace-held.ensures.value ∙ c.self.view_is)) c.requires)

pub unlist-requires-clause-counts : goal.unlist-requires-clause-counts
unlist-requires-clause-counts g c =
    let m = c.replace-held.result in
    let counts = c.replace-listings.result in
    let are : AreCounts counts m = λ q. ap (λ n. count_at n q) c.replace-listings.ensures.value ∙ c.self.invariant q ∙ ap (λ n. times_listed (map.entries n) q) (sym c.replace-held.ensures.value) in
    listed_before m counts are c.args.key.now c.as_slice.result.now
    (c.as_slice.ensures ∙ c.unwrap_or-before.ensures ∙ (λ j. unwrap_or (c.remove.ensures.before j) (c.new-3.ensures j)))

pub invariant_of-self-2 : goal.invariant_of-self-2
invariant_of-self-2 g c =
    let m = c.replace-held.result in
    let counts = c.replace-listings.result in
    let are : AreCounts counts m = λ q. ap (λ n. count_at n q) c.replace-listings.ensures.value ∙ c.self.invariant q ∙ ap (λ n. times_listed (map.entries n) q) (sym c.replace-held.ensures.value) in
    subst (λ n. AreCounts c.unlist.new.self n) (sym c.remove.ensures.removed) (counts_removed m counts are c.args.key.now c.as_slice.result.now
    (c.as_slice.ensures ∙ c.unwrap_or-before.ensures ∙ (λ j. unwrap_or (c.remove.ensures.before j) (c.new-3.ensures j)))
    c.unlist.new.self c.in_ok-unlist.ensures.counts)

pub returns-clause-profiles : goal.returns-clause-profiles
returns-clause-profiles g c =
    listed_from_counted c.unlist.new.self c.remove.new.self (invariant_of-self-2 g c) c.args.profiles.now (g.S.ActiveSink.profiles c.unlist.new.sink) c.in_ok-unlist.ensures.profiles
