use Rattle.std.proofs.Common.{length, sym, subst, nat_le}
use Rattle.fx_selector.specs.Formed.{is_key_text}
use Rattle.fx_selector.specs.Tree.{IsKey}
use Rattle.fx_selector.proofs.FormedTrees.{tested_key}
use Rattle.fx_fields.proofs.Readings.{second_of}
use Rattle.fx_k8s.proofs.label_texts.LabelKey.new.Goals as goal

pub invariant_of-result : goal.invariant_of-result
invariant_of-result c =
    let key = c.args.key.now in
    subst IsKey (sym c.in_ok-held.ensures) (tested_key key (second_of (nat_le (length key) 512) (is_key_text key) c.requires))
