use Rattle.std.proofs.Common.{not, sym, ap, ◌∙◌, Some, None}
use Rattle.std.specs.Prelude.{nat_lt}
use Rattle.fx_names.specs.declared.claim.Claim.{Claim}
use Rattle.fx_names.proofs.Holdings.{times-held, some_uses}
use Rattle.fx_names.proofs.registry.Holding.outlasts_beside.Goals as goal

pub returns-in-Some : goal.returns-in-Some
returns-in-Some c = λ old k.
    let claim : Claim = record { name = c.args.name.now; holder = c.args.self.now.holder } in
    c.exceeds.ensures ∙ ap (λ n. nat_lt n c.args.self.now.uses) (sym (times-held c.args.gone.now old k claim (Some c.in-Some.other.now) (sym c.in-Some.ensures)))

pub returns-in-None : goal.returns-in-None
returns-in-None c = λ old k.
    let claim : Claim = record { name = c.args.name.now; holder = c.args.self.now.holder } in
    ap not c.is_zero.ensures ∙ some_uses c.args.self.now.uses ∙ ap (λ n. nat_lt n c.args.self.now.uses) (sym (times-held c.args.gone.now old k claim None (sym c.in-None.ensures)))
