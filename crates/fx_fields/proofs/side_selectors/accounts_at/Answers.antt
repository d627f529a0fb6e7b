use Rattle.serde_json.specs.View.{view}
use Rattle.fx_selector.specs.Tree.{AreStrings}
use Rattle.fx_fields.specs.declared.side_selectors.Accounts.{Accounts}
use Rattle.fx_fields.specs.Paths.{text_of}
use Rattle.fx_fields.specs.SideSelectors.{accounts_at}
use Rattle.fx_fields.proofs.Readings.{answered-if, weaker-if}
use Rattle.fx_fields.proofs.SelectorTexts.{IsShallow, part-shallow}
use Rattle.fx_fields.proofs.SideTrees.{AreAccounts, accounts_at-formed}
use Rattle.fx_fields.proofs.side_selectors.accounts_at.Goals as goal

abbrev AreNames : Accounts → Type 0
AreNames a = AreStrings a.names

abbrev HasShallow : Accounts → Type 0
HasShallow a = IsShallow a.chosen

pub returns-clause-names : goal.returns-clause-names
returns-clause-names c =
    let answer = accounts_at (text_of c.args.path.now) (view c.args.side.now) in
    answered-if AreNames answer c.given_accounts.result
    (weaker-if AreAccounts AreNames answer (λ a is. is.0) (accounts_at-formed (text_of c.args.path.now) (view c.args.side.now))) c.given_accounts.ensures

pub returns-clause-shallow : goal.returns-clause-shallow
returns-clause-shallow c =
    let answer = accounts_at (text_of c.args.path.now) (view c.args.side.now) in
    answered-if HasShallow answer c.given_accounts.result
    (weaker-if AreAccounts HasShallow answer (λ a is. part-shallow a.chosen is.1) (accounts_at-formed (text_of c.args.path.now) (view c.args.side.now))) c.given_accounts.ensures
