use Rattle.std.proofs.Common.{rules, take, drop, sym}
use Rattle.std.proofs.lemmas.List.{take-append-drop}
use Rattle.fx_base.proofs.torn_sink.TornSinkSink.put.Goals as goal

pub returns-then-is_torn-clause-err : goal.returns-then-is_torn-clause-err
returns-then-is_torn-clause-err c =
    let kept = c.min-kept.result in
    let bytes = c.args.bytes.now in
    (take kept bytes, drop kept bytes, sym (take-append-drop kept bytes), search rules)
