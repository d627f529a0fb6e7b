use Rattle.std.proofs.Common.{◌≡◌, sym, ap, ◌∙◌, subst}
use Rattle.fx_names.specs.Digests.{plain_digest}
use Rattle.fx_model.specs.Claims.{IsClashFree}
use Rattle.fx_model.specs.Formed.{are_formed}
use Rattle.fx_model.specs.declared.resources.Resources.{Resources}
use Rattle.fx_laws.proofs.ClaimsApart.{clash_free_after}
use Rattle.fx_laws.proofs.FormedLemmas.{are_formed-after}
use Rattle.fx_graph.specs.Graphs.{IsGraphOf}
use Rattle.fx_graph_tests.proofs.bench.take.Goals as goal

pub apply-requires-clause-resources : goal.apply-requires-clause-resources
apply-requires-clause-resources c =
    let R = c.args.store.now.resources in
    let was = c.requires.alike in (
      R,
      (
        was.graph,
        record {
          formed = are_formed-after R was.formed c.args.update c.requires.formed;
          apart = clash_free_after plain_digest R c.args.update c.requires.formed was.apart c.requires.free;
        },
      ),
    )

pub returns : goal.returns
returns c =
    let R = c.args.store.now.resources in
    let was = c.requires.alike in
    let made = c.in_ok-apply_with.ensures.made in
    record {
      formed = ap are_formed made ∙ are_formed-after R was.formed c.args.update c.requires.formed;
      apart = subst (IsClashFree plain_digest) (sym made) (clash_free_after plain_digest R c.args.update c.requires.formed was.apart c.requires.free);
      claims = c.in_ok-apply_with.ensures.claims;
      graph = subst (λ (S : Resources). IsGraphOf plain_digest S c.apply.new.self.state) (sym made) (c.in_ok-apply.ensures.follows R was.graph);
    }
