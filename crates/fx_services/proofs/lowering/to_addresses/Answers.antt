use Rattle.std.proofs.Common.{Some}
use Rattle.fx_services.proofs.lowering.to_addresses.Goals as goal

pub returns : goal.returns
returns c = λ i. record (c.in_ok-made.ensures i) {
  destination = record (c.in_ok-made.ensures i).destination { selector = Some (c.in_ok-of_service.ensures i) };
}
