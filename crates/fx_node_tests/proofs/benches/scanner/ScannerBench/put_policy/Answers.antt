use Rattle.std.proofs.Common.{subst, sym}
use Rattle.fx_names.specs.Digests.{plain_digest}
use Rattle.fx_model.specs.Sets.{nets_use}
use Rattle.fx_scanner.specs.Alone.{IsAlone}
use Rattle.fx_scanner.proofs.Lonely.{alone_with_policy, alone_apart}
use Rattle.fx_node_tests.proofs.benches.scanner.ScannerBench.put_policy.Goals as goal

pub policy_on-requires-clause-apart : goal.policy_on-requires-clause-apart
policy_on-requires-clause-apart c =
    let was = c.args.self.now in
    let set = nets_use was.selector in
    alone_apart was.id was.name set plain_digest _ (alone_with_policy was.id was.name set was.node c.requires.alone c.in_ok-policy.policy c.in_ok-policy.ensures)

pub policy_on-requires-clause-scanned : goal.policy_on-requires-clause-scanned
policy_on-requires-clause-scanned c = c.requires.scanned

pub returns : goal.returns
returns c =
    let was = c.args.self.now in
    let set = nets_use was.selector in
    let is = c.in_ok-policy_on.ensures in
    record {
      scanned = is.scanned;
      alone = subst (IsAlone was.id was.name set) (sym is.inputs) (alone_with_policy was.id was.name set was.node c.requires.alone c.in_ok-policy.policy c.in_ok-policy.ensures);
    }
