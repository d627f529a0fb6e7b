use Rattle.std.proofs.Common.{refl, subst, sym, [], ◌∷◌}
use Rattle.std.specs.Prelude.{codes}
use Rattle.fx_base.specs.Forms.{Reads}
use Rattle.fx_base.specs.Protocols.{IsNamedIn}
use Rattle.fx_base.proofs.ProtocolLemmas.{alone, joined}
use Rattle.fx_base.proofs.protocol_text.protocol.Goals as goal

pub returns : goal.returns
returns c =
    let text = c.args.text.now in
    let t1 = (codes "udplite", 136) ∷ [] in
    let t2 = (codes "sctp", 132) ∷ t1 in
    let t3 = (codes "udp", 17) ∷ t2 in
    let t4 = (codes "tcp", 6) ∷ t3 in
    let t5 = (codes "icmpv6", 58) ∷ t4 in
    let t6 = (codes "icmp", 1) ∷ t5 in
    let r2 = subst (Reads (IsNamedIn t2) text) (sym c.either-last.ensures) (joined (codes "sctp") 132 t1 refl text _ _ c.named.ensures (alone (codes "udplite") 136 text _ c.named-2.ensures)) in
    let r3 = subst (Reads (IsNamedIn t3) text) (sym c.either.ensures) (joined (codes "udp") 17 t2 refl text _ _ c.named-4.ensures r2) in
    let r4 = subst (Reads (IsNamedIn t4) text) (sym c.either-plain.ensures) (joined (codes "tcp") 6 t3 refl text _ _ c.named-3.ensures r3) in
    let r5 = subst (Reads (IsNamedIn t5) text) (sym c.either-2.ensures) (joined (codes "icmpv6") 58 t4 refl text _ _ c.named-6.ensures r4) in
    subst (Reads (IsNamedIn t6) text) (sym c.either-3.ensures) (joined (codes "icmp") 1 t5 refl text _ _ c.named-5.ensures r5)
