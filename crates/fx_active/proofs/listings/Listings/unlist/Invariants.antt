use Rattle.std.proofs.Common.{◌≡◌, ℕ, ◌+◌, List, take}
use Rattle.fx_active.specs.Indexes.{count_at, times_in, AreCounted}
use Rattle.fx_active.proofs.listings.Listings.unlist.Given as goal

abbrev pub invariant-loop-name : goal.invariant-loop-name
invariant-loop-name g l = record {
  counts : (q : List ℕ) → times_in (take l.name-index l.names) q + count_at l.self q ≡ count_at l.fn.self q;
  profiles : AreCounted l.profiles l.self (g.S.ActiveSink.profiles l.sink);
  policies : g.S.ActiveSink.policies l.sink ≡ g.S.ActiveSink.policies l.fn.sink;
  pairs : g.S.ActiveSink.pairs l.sink ≡ g.S.ActiveSink.pairs l.fn.sink;
}
