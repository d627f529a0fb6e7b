use Rattle.std.proofs.Common.{ap, ◌∙◌}
use Rattle.std.specs.FinMap as map
use Rattle.fx_active.proofs.ListingLemmas.{listed_first}
use Rattle.fx_active.proofs.listings.Listings.list_one.Goals as goal

pub returns-in_ok-profile_on-clause-profiles : goal.returns-in_ok-profile_on-clause-profiles
returns-in_ok-profile_on-clause-profiles g c =
    listed_first c.args.profiles.now c.args.self.now c.raise.new.self c.args.name.now (g.S.ActiveSink.profiles c.args.sink.now) (g.S.ActiveSink.profiles c.profile_on.new.self)
    c.requires c.in_ok-raise.ensures.counts
    (c.in_ok-profile_on.ensures.profiles ∙ ap (map.insert (g.S.ActiveSink.profiles c.args.sink.now) c.args.name.now) c.get.ensures)
