use Rattle.fx_base.proofs.ProtocolLemmas.{named_leaves}
use Rattle.fx_base.proofs.protocol_text.named.Goals as goal
use Rattle.fx_base.proofs.protocol_text.named.Goals.{else-at-text-via-then-at-text+else-at-name, else-at-text-via-else-at-text}

pub returns-else-at-text : goal.returns-else-at-text
returns-else-at-text c =
    let s = c.shared-at.ensures in
    named_leaves c.args.text.now c.args.name.now c.args.number c.shared-at.result c.requires s.within.0 s.within.1 s.same s.stop
    (λ e. elim c.else-at-text.branch [ else-at-text-via-then-at-text+else-at-name w ↦ w.if-at-name.false e.1 | else-at-text-via-else-at-text w ↦ w.if-at-text.false e.0 ])
