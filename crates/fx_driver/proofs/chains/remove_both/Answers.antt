use Rattle.std.specs.List.{remove}
use Rattle.fx_model.specs.Directions.{Ingress, Egress}
use Rattle.fx_model.specs.Machine.{rules_in}
use Rattle.fx_model.specs.Tree.{child_chain}
use Rattle.fx_driver.proofs.RuleSteps.{place_still, less_still, both_less}
use Rattle.fx_driver.proofs.chains.remove_both.Goals as goal

pub remove_rule-requires-clause-within : goal.remove_rule-requires-clause-within
remove_rule-requires-clause-within g c = rw c.child_chain_name.ensures (c.requires.places Ingress)

pub remove_rule-requires-2-clause-within : goal.remove_rule-requires-2-clause-within
remove_rule-requires-2-clause-within g c =
    let is = rw c.child_chain_name.ensures at c.remove_rule.ensures.gone in
    rw c.child_chain_name-2.ensures (place_still c.args.tables.now c.remove_rule.new.tables c.args.byte.now (remove (rules_in c.args.tables.now.chains (child_chain Ingress c.args.byte.now)) c.args.place) is c.args.place (c.requires.places Egress))

pub remove_rule-requires-2-clause-writable : goal.remove_rule-requires-2-clause-writable
remove_rule-requires-2-clause-writable g c =
    let is = rw c.child_chain_name.ensures at c.remove_rule.ensures.gone in
    rw c.child_chain_name-2.ensures (less_still c.args.tables.now c.remove_rule.new.tables c.args.byte.now (remove (rules_in c.args.tables.now.chains (child_chain Ingress c.args.byte.now)) c.args.place) is c.args.place c.requires.writable.1.0)

pub returns-clause-gone : goal.returns-clause-gone
returns-clause-gone g c =
    let is = rw c.child_chain_name.ensures at c.remove_rule.ensures.gone in
    let then = rw c.child_chain_name-2.ensures at c.remove_rule-2.ensures.gone in
    both_less c.args.tables.now c.remove_rule.new.tables c.args.byte.now (remove (rules_in c.args.tables.now.chains (child_chain Ingress c.args.byte.now)) c.args.place) is c.remove_rule-2.new.tables c.args.place then
