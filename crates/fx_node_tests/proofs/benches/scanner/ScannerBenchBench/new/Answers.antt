use Rattle.std.proofs.Common.{sym, subst}
use Rattle.fx_names.specs.Digests.{plain_digest}
use Rattle.fx_model.specs.Sinks.{Uses, PoliciesByKey, ProfilesByKey}
use Rattle.fx_scanner.specs.Scanned.{IsScanned}
use Rattle.fx_scanner.proofs.Lonely.{alone_at_first}
use Rattle.fx_node_tests.proofs.benches.scanner.ScannerBenchBench.new.Goals as goal

pub returns : goal.returns
returns c = record {
  scanned =
      subst (λ (P : PoliciesByKey). IsScanned plain_digest c.new-node.result P c.new-sink.result.view.profiles c.new-sink.result.uses) (sym c.new-sink.ensures.policies)
      (subst (λ (Q : ProfilesByKey). IsScanned plain_digest c.new-node.result _ Q c.new-sink.result.uses) (sym c.new-sink.ensures.profiles)
      (subst (λ (U : Uses). IsScanned plain_digest c.new-node.result _ _ U) (sym c.new-sink.ensures.uses) (c.new-node.ensures.scanned plain_digest)));
  alone = alone_at_first _ _ _ c.new-node.result c.new-node.ensures.empty;
}
