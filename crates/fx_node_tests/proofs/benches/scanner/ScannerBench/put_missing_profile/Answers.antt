use Rattle.std.proofs.Common.{None, subst, sym}
use Rattle.fx_names.specs.Digests.{plain_digest}
use Rattle.fx_model.specs.Sets.{nets_use}
use Rattle.fx_scanner.specs.Alone.{IsAlone}
use Rattle.fx_scanner.proofs.Lonely.{alone_with_profile, alone_apart}
use Rattle.fx_node_tests.proofs.benches.scanner.ScannerBench.put_missing_profile.Goals as goal

pub profile_on-requires-clause-apart : goal.profile_on-requires-clause-apart
profile_on-requires-clause-apart c =
    let was = c.args.self.now in
    let set = nets_use was.selector in
    alone_apart was.id was.name set plain_digest _ (alone_with_profile was.id was.name set was.node c.requires.alone None tt)

pub profile_on-requires-clause-scanned : goal.profile_on-requires-clause-scanned
profile_on-requires-clause-scanned c = c.requires.scanned

pub returns : goal.returns
returns c =
    let was = c.args.self.now in
    let set = nets_use was.selector in
    let is = c.in_ok-profile_on.ensures in
    record {
      scanned = is.scanned;
      alone = subst (IsAlone was.id was.name set) (sym is.inputs) (alone_with_profile was.id was.name set was.node c.requires.alone None tt);
    }
