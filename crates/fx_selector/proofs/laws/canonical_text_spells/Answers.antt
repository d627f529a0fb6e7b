use Rattle.fx_selector.proofs.Spelling.{canonical_spells}
use Rattle.fx_selector.proofs.laws.canonical_text_spells.Goals as goal

pub returns : goal.returns
returns c = canonical_spells
