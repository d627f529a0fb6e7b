use Rattle.std.proofs.Common.{refl, sym, ◌∙◌, subst}
use Rattle.fx_logs.specs.Run.{IsRun}
use Rattle.fx_members.specs.Members.{AreMembers}
use Rattle.fx_resolver.specs.Resolved.{IsResolved}
use Rattle.fx_scanner.specs.Scanned.{IsScanned}
use Rattle.fx_graph_view.specs.Knowing.{AreKnown}
use Rattle.fx_graph_view.specs.Noted.{AreNoted}
use Rattle.fx_graph.specs.Taking.{taken_of}
use Rattle.fx_graph.proofs.nodes.Nodes.settle.Goals as goal

pub supply_matches-requires-clause-run : goal.supply_matches-requires-clause-run
supply_matches-requires-clause-run g c = subst (λ cs. IsRun cs c.args.self.now.members.matched c.args.self.now.upper.joined.pairs) (sym c.as_slice.ensures) c.requires.ahead.1.run

pub supply_matches-requires-clause-members : goal.supply_matches-requires-clause-members
supply_matches-requires-clause-members g c = c.requires.ahead.1.members

pub scan-requires-clause-policies : goal.scan-requires-clause-policies
scan-requires-clause-policies g c = c.requires.ahead.1.policies

pub scan-requires-clause-profiles : goal.scan-requires-clause-profiles
scan-requires-clause-profiles g c = c.requires.ahead.1.profiles

pub scan-requires-clause-formed : goal.scan-requires-clause-formed
scan-requires-clause-formed g c = c.requires.ahead.1.formed

pub scan-requires-clause-scanned : goal.scan-requires-clause-scanned
scan-requires-clause-scanned g c =
    let b = c.in_ok-supply_matches.ensures.beside in
    let s = c.args.self.now in
    subst (λ p. IsScanned g.R.DigestRule.digest_of s.scanner p c.supply_matches.new.sequencer.wanted.profiles s.uses) (sym b.policies)
    (subst (λ p. IsScanned g.R.DigestRule.digest_of s.scanner s.sequencer.wanted.policies p s.uses) (sym b.profiles) c.requires.ahead.1.scanned)

pub resolve-requires-clause-behind : goal.resolve-requires-clause-behind
resolve-requires-clause-behind g c = c.requires.ahead.1.behind

pub resolve-requires-clause-run : goal.resolve-requires-clause-run
resolve-requires-clause-run g c = c.requires.ahead.1.pairs

pub resolve-requires-clause-resolved : goal.resolve-requires-clause-resolved
resolve-requires-clause-resolved g c = subst (IsResolved c.args.self.now.resolver) (sym (c.in_ok-noted.ensures.endpoints ∙ c.in_ok-supply_matches.ensures.beside.endpoints)) c.requires.ahead.1.resolved

pub supply_uses-requires-clause-noted : goal.supply_uses-requires-clause-noted
supply_uses-requires-clause-noted g c = subst (λ m. AreNoted c.in_ok-noted.noted m c.scan.new.uses) (sym ((λ j. (c.in_ok-supply_matches.ensures.inputs j).uses) ∙ c.requires.ahead.1.uses)) c.in_ok-noted.ensures.noted

pub supply_uses-requires-clause-members : goal.supply_uses-requires-clause-members
supply_uses-requires-clause-members g c = subst (AreMembers c.supply_matches.new.members) (sym (c.in_ok-resolve.ensures.beside.sets ∙ c.in_ok-noted.ensures.beside.sets)) c.in_ok-supply_matches.ensures.members

pub feed-requires-clause-since : goal.feed-requires-clause-since
feed-requires-clause-since g c = (c.requires.ahead.0, record { was = c.args.self.now.uses; noted = c.in_ok-noted.ensures.noted; upper = c.requires.ahead.1.upper })

pub feed-requires-clause-matched : goal.feed-requires-clause-matched
feed-requires-clause-matched g c = (λ j. (c.in_ok-supply_uses.ensures.inputs j).matched) ∙ (λ j. (c.in_ok-supply_matches.ensures.inputs j).matched)

pub returns-clause-taken : goal.returns-clause-taken
returns-clause-taken g c =
    (λ j. record (taken_of c.args.self.now) { items = (c.in_ok-feed.ensures.index j).items; parents = (c.in_ok-feed.ensures.index j).parents; policies = (c.in_ok-feed.ensures.active j).policies; profiles = (c.in_ok-feed.ensures.active j).profiles; endpoints = (c.in_ok-feed.ensures.active j).endpoints; tiers = (c.in_ok-resolve.ensures.inputs j).tiers; locals = (c.in_ok-resolve.ensures.inputs j).endpoints; contributors = ((λ j. (c.in_ok-feed.ensures.inputs j).items) ∙ (λ j. (c.in_ok-supply_uses.ensures.inputs j).items) ∙ (λ j. (c.in_ok-supply_matches.ensures.inputs j).items)) j })

pub returns-clause-beside : goal.returns-clause-beside
returns-clause-beside g c = record {
  waiting = refl;
  sent = c.in_ok-feed.ensures.beside.sent ∙ c.in_ok-supply_uses.ensures.beside.sent ∙ c.in_ok-resolve.ensures.beside.sent ∙ c.in_ok-noted.ensures.beside.sent ∙ c.in_ok-supply_matches.ensures.beside.sent;
}

pub returns-clause-settled : goal.returns-clause-settled
returns-clause-settled g c = λ before h.
    let f = c.in_ok-feed.ensures in
    let u = c.in_ok-supply_uses.ensures in
    let r = c.in_ok-resolve.ensures in
    let s = c.in_ok-noted.ensures in
    record {
      upper = f.upper before (record { was = c.args.self.now.uses; noted = s.noted; upper = h.upper });
      policies = (λ j. (s.inputs j).policies) ∙ sym f.policies;
      profiles = (λ j. (s.inputs j).profiles) ∙ sym f.profiles;
      scanned = subst (λ p. IsScanned g.R.DigestRule.digest_of c.scan.new.scanner p c.feed.new.sequencer.wanted.profiles c.scan.new.uses) (sym (f.beside.policies ∙ u.beside.policies ∙ r.policies))
          (subst (λ p. IsScanned g.R.DigestRule.digest_of c.scan.new.scanner c.scan.new.sequencer.wanted.policies p c.scan.new.uses) (sym (f.beside.profiles ∙ u.beside.profiles ∙ r.profiles)) s.scanned);
      known = subst (λ m. AreKnown g.R.DigestRule.digest_of m c.resolve.new.resolver.policies) (sym f.policies) r.known;
      pairs = (λ j. (r.inputs j).pairs) ∙ sym f.pairs;
      resolved = subst (IsResolved c.resolve.new.resolver) (sym (f.beside.endpoints ∙ u.beside.endpoints)) r.resolved;
      uses = (λ j. (f.inputs j).uses) ∙ (λ j. (u.inputs j).uses);
      matched = λ j. (f.inputs j).matched;
      members = f.members;
      formed = s.formed;
    }

pub returns-clause-tests : goal.returns-clause-tests
returns-clause-tests g c = λ first m sets still it. c.in_ok-feed.ensures.tests c.args.self.now.uses first m c.in_ok-noted.ensures.noted sets still it
