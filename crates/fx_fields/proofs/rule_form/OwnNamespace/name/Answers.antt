use Rattle.fx_fields.proofs.rule_form.OwnNamespace.name.Goals as goal

pub returns-clause-string : goal.returns-clause-string
returns-clause-string c = c.self.invariant
