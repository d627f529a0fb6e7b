use Rattle.std.proofs.Common.{sym, ◌∙◌}
use Rattle.fx_active.proofs.ListingLemmas.{unlisted_last}
use Rattle.fx_active.proofs.listings.Listings.unlist_one.Goals as goal

pub returns-in_ok-profile_off-clause-profiles : goal.returns-in_ok-profile_off-clause-profiles
returns-in_ok-profile_off-clause-profiles g c =
    unlisted_last c.args.profiles.now c.args.self.now c.lower.new.self c.args.name.now (g.S.ActiveSink.profiles c.args.sink.now) (g.S.ActiveSink.profiles c.profile_off.new.self)
    c.requires.profiles c.lower.ensures.counts c.in_ok-profile_off.ensures.profiles (sym c.lower.ensures.last ∙ c.if-lower.true)
