use Rattle.std.specs.List.{insert}
use Rattle.fx_model.specs.Directions.{Ingress, Egress}
use Rattle.fx_model.specs.Machine.{rules_in}
use Rattle.fx_model.specs.Tree.{child_chain}
use Rattle.fx_driver.proofs.RuleSteps.{place_still, more_still, both_more}
use Rattle.fx_driver.proofs.chains.insert_both.Goals as goal

pub insert_rule-requires-clause-within : goal.insert_rule-requires-clause-within
insert_rule-requires-clause-within g c = rw c.child_chain_name.ensures (c.requires.places Ingress)

pub insert_rule-requires-2-clause-within : goal.insert_rule-requires-2-clause-within
insert_rule-requires-2-clause-within g c =
    let is = rw c.child_chain_name.ensures at c.in_ok-insert_rule.ensures.ok in
    rw c.child_chain_name-2.ensures (place_still c.args.tables.now c.insert_rule.new.tables c.args.byte.now (insert (rules_in c.args.tables.now.chains (child_chain Ingress c.args.byte.now)) c.args.place c.args.to) is c.args.place (c.requires.places Egress))

pub insert_rule-requires-2-clause-writable : goal.insert_rule-requires-2-clause-writable
insert_rule-requires-2-clause-writable g c =
    let is = rw c.child_chain_name.ensures at c.in_ok-insert_rule.ensures.ok in
    rw c.child_chain_name-2.ensures (more_still c.args.tables.now c.insert_rule.new.tables c.args.byte.now (insert (rules_in c.args.tables.now.chains (child_chain Ingress c.args.byte.now)) c.args.place c.args.to) is c.args.place c.args.from c.requires.writable.1.0)

pub returns-clause-ok : goal.returns-clause-ok
returns-clause-ok g c =
    let is = rw c.child_chain_name.ensures at c.in_ok-insert_rule.ensures.ok in
    let then = rw c.child_chain_name-2.ensures at c.in_ok-insert_rule-2.ensures.ok in
    both_more c.args.tables.now c.insert_rule.new.tables c.args.byte.now (insert (rules_in c.args.tables.now.chains (child_chain Ingress c.args.byte.now)) c.args.place c.args.to) is c.insert_rule-2.new.tables c.args.place c.args.from then
