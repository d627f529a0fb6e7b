use Rattle.std.proofs.Common.{Some}
use Rattle.fx_services.proofs.lowering.from_service.Goals as goal

pub returns : goal.returns
returns c = λ i. record (c.in_ok-made.ensures i) {
  source = record (c.in_ok-made.ensures i).source { selector = Some (c.in_ok-of_service.ensures i) };
}
