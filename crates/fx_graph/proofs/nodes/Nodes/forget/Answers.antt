use Rattle.std.proofs.Common.{refl, sym, ◌∙◌, subst}
use Rattle.fx_logs.specs.Run.{IsRun}
use Rattle.fx_resolver.specs.Resolved.{IsResolved}
use Rattle.fx_scanner.specs.Scanned.{IsScanned}
use Rattle.fx_graph_view.specs.Knowing.{AreKnown}
use Rattle.fx_graph.specs.Used.{used_in}
use Rattle.fx_graph.specs.Taking.{taken_of}
use Rattle.fx_graph.proofs.nodes.Nodes.forget.Goals as goal

pub forget-requires : goal.forget-requires
forget-requires g c = (used_in c.args.self.now.uses, c.requires.upper)

pub supply_matches-requires-clause-run : goal.supply_matches-requires-clause-run
supply_matches-requires-clause-run g c =
    subst (λ cs. IsRun cs c.args.self.now.members.matched c.forget.new.self.joined.pairs) (sym c.as_slice.ensures)
    (subst (λ m. IsRun c.in_ok-changes.changes m c.forget.new.self.joined.pairs) (sym c.requires.matched) c.in_ok-changes.ensures.changes)

pub supply_matches-requires-clause-members : goal.supply_matches-requires-clause-members
supply_matches-requires-clause-members g c = c.requires.members

pub returns-clause-taken : goal.returns-clause-taken
returns-clause-taken g c =
    (λ j. record (taken_of c.args.self.now) { items = (c.in_ok-changes.ensures.index j).items; parents = (c.in_ok-changes.ensures.index j).parents; policies = (c.in_ok-changes.ensures.active j).policies; profiles = (c.in_ok-changes.ensures.active j).profiles; endpoints = (c.in_ok-changes.ensures.active j).endpoints; contributors = (c.in_ok-supply_matches.ensures.inputs j).items })

pub returns-clause-beside : goal.returns-clause-beside
returns-clause-beside g c = record { waiting = refl; sent = c.in_ok-supply_matches.ensures.beside.sent }

pub returns-clause-settled : goal.returns-clause-settled
returns-clause-settled g c =
    let h = c.requires in
    let u = c.in_ok-changes.ensures in
    let m = c.in_ok-supply_matches.ensures in
    record {
      upper = u.upper (used_in c.args.self.now.uses) h.upper;
      policies = h.policies ∙ sym u.policies;
      profiles = h.profiles ∙ sym u.profiles;
      scanned = subst (λ p. IsScanned g.R.DigestRule.digest_of c.args.self.now.scanner p c.supply_matches.new.sequencer.wanted.profiles c.args.self.now.uses) (sym m.beside.policies)
          (subst (λ p. IsScanned g.R.DigestRule.digest_of c.args.self.now.scanner c.args.self.now.sequencer.wanted.policies p c.args.self.now.uses) (sym m.beside.profiles) h.scanned);
      known = subst (λ p. AreKnown g.R.DigestRule.digest_of p c.args.self.now.resolver.policies) (sym u.policies) h.known;
      pairs = h.pairs ∙ sym u.pairs;
      resolved = subst (IsResolved c.args.self.now.resolver) (sym m.beside.endpoints) h.resolved;
      uses = (λ j. (m.inputs j).uses) ∙ h.uses;
      matched = λ j. (m.inputs j).matched;
      members = m.members;
      formed = h.formed;
    }

pub returns-clause-tests : goal.returns-clause-tests
returns-clause-tests g c = λ first m there it. c.in_ok-changes.ensures.tests first m there it
