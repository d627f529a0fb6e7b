use Rattle.std.proofs.Common.{subst, sym}
use Rattle.fx_model.specs.Sets.{nets_use}
use Rattle.fx_scanner.specs.Alone.{IsAlone}
use Rattle.fx_scanner.proofs.Lonely.{alone_without_policy}
use Rattle.fx_node_tests.proofs.benches.scanner.ScannerBench.remove_policy.Goals as goal

pub policy_off-requires : goal.policy_off-requires
policy_off-requires c = c.requires.scanned

pub returns : goal.returns
returns c =
    let was = c.args.self.now in
    let set = nets_use was.selector in
    let is = c.in_ok-policy_off.ensures in
    record {
      scanned = is.scanned;
      alone = subst (IsAlone was.id was.name set) (sym is.inputs) (alone_without_policy was.id was.name set was.node c.requires.alone);
    }
