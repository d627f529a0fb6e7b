use Rattle.std.proofs.Common.{None, sym, ap, ◌∙◌, subst}
use Rattle.fx_node_laws.specs.Changes.{Taken}
use Rattle.fx_node_laws.specs.Waits.{Queue, with_waiting}
use Rattle.fx_graph.specs.Taking.{AreApart, AreOwnTogether, AreShort, serving, taken_of}
use Rattle.fx_graph.proofs.Kept.{settled_waiting}
use Rattle.fx_label_index.specs.Tested.{IsTested}
use Rattle.fx_graph.proofs.nodes.Nodes.begin.Goals as goal

pub put_locals-requires-clause-short : goal.put_locals-requires-clause-short
put_locals-requires-clause-short g c = subst AreShort (sym c.replace-waiting.ensures.value) c.requires.short

pub put_locals-requires-clause-own : goal.put_locals-requires-clause-own
put_locals-requires-clause-own g c = subst (λ (w : Queue). AreOwnTogether g.R.DigestRule.digest_of w (taken_of c.args.self.now)) (sym c.replace-waiting.ensures.value) c.requires.own

pub put_locals-requires-clause-settled : goal.put_locals-requires-clause-settled
put_locals-requires-clause-settled g c = settled_waiting g.R.DigestRule.digest_of None c.args.self.now c.requires.settled _

pub serve_all-requires-clause-apart : goal.serve_all-requires-clause-apart
serve_all-requires-clause-apart g c =
    let t = taken_of c.args.self.now in
    subst (AreApart g.R.DigestRule.digest_of)
    (sym (ap (λ (s : Taken). serving c.replace-waiting.result s) c.in_ok-put_locals.ensures.taken
    ∙ ap (λ (w : Queue). with_waiting g.R.DigestRule.digest_of w t) c.replace-waiting.ensures.value))
    c.requires.apart

pub returns-clause-taken : goal.returns-clause-taken
returns-clause-taken g c =
    let t = taken_of c.args.self.now in
    c.in_ok-serve_all.ensures.taken
    ∙ ap (λ (s : Taken). serving c.replace-waiting.result s) c.in_ok-put_locals.ensures.taken
    ∙ ap (λ (w : Queue). with_waiting g.R.DigestRule.digest_of w t) c.replace-waiting.ensures.value

pub returns-clause-tests : goal.returns-clause-tests
returns-clause-tests g c =
    subst (λ n. IsTested n c.serve_all.new.self.upper.joined.index (g.T.Ticker.number c.args.ticks.now) (g.T.Ticker.number c.serve_all.new.ticks))
    (c.in_ok-put_locals.ensures.index) c.in_ok-serve_all.ensures.tests
