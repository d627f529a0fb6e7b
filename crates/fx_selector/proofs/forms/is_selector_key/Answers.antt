use Rattle.std.proofs.Common.{◌<◌, ◌∙◌, length, arith}
use Rattle.std.proofs.lemmas.Grind.{common_steps}
use Rattle.fx_selector.proofs.Literals.{key_by, key_text_by}
use Rattle.fx_selector.proofs.forms.is_selector_key.Goals as goal

pub returns-clause-form : goal.returns-clause-form
returns-clause-form c =
    let some : 0 < length c.args.text.now = grind (arith, common_steps) in
    key_by c.args.text.now c.are_key_bytes.result some c.are_key_bytes.ensures

pub returns-clause-test : goal.returns-clause-test
returns-clause-test c =
    let some : 0 < length c.args.text.now = grind (arith, common_steps) in
    c.are_key_bytes.ensures ∙ key_text_by c.args.text.now some
