use Rattle.serde_json.specs.View.{view}
use Rattle.fx_fields.specs.Paths.{text_of}
use Rattle.fx_fields.specs.Selectors.{selector_at}
use Rattle.fx_fields.proofs.Readings.{answered-if, weaker-if}
use Rattle.fx_fields.proofs.SelectorTexts.{IsPart, IsShallow, selector_at-part, part-shallow}
use Rattle.fx_fields.proofs.selectors.selector_at.Goals as goal

pub returns-clause-shallow : goal.returns-clause-shallow
returns-clause-shallow c =
    let answer = selector_at (text_of c.args.path.now) c.args.key.now (view c.args.object.now) in
    answered-if IsShallow answer c.given_selector.result
    (weaker-if IsPart IsShallow answer part-shallow (selector_at-part (text_of c.args.path.now) c.args.key.now (view c.args.object.now))) c.given_selector.ensures
