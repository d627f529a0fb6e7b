use Rattle.fx_json.specs.Rules.{protocols}
use Rattle.fx_json.proofs.rules.read_protocols.Goals as goal

pub returns : goal.returns
unfolding protocols
returns c =
    rw (c.in_ok-version.ensures, c.in_ok-protocol.ensures, c.in_ok-not_protocol.ensures, c.in_ok-icmp.ensures, c.in_ok-not_icmp.ensures)
    (rw (c.of_ipv4.ensures, c.of_ipv4-2.ensures, c.is_of_ipv6.ensures))
