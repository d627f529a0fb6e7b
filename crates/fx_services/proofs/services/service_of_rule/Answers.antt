use Rattle.std.proofs.Common.{◌≡◌, ap, not, sym}
use Rattle.fx_services.specs.Services.{service_of_rule}
use Rattle.fx_services.proofs.services.service_of_rule.Goals as goal

pub returns : goal.returns
unfolding service_of_rule
returns c =
    rw (sym c.is_ingress-ingress.ensures, c.in_ok-source.ensures, c.in_ok-destination.ensures)
    (rw c.named_for.ensures)
