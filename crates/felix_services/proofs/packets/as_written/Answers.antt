use Rattle.std.proofs.Common.{Option, Some, sym, ap, ◌∙◌}
use Rattle.std.specs.Prelude.{option_map}
use Rattle.std.specs.Option.{option_copied}
use Rattle.fx_model.specs.declared.chain.Reason.{Reason}
use Rattle.fx_services.specs.Places.{reason_as_written, flushed_places}
use Rattle.felix_services.proofs.packets.as_written.Goals as goal

pub returns-in_ok-reason-in-Some : goal.returns-in_ok-reason-in-Some
returns-in_ok-reason-in-Some c =
    let places = c.args.places.now in
    ap Some c.in_ok-reason-in-Some.ensures
    ∙ ap (λ (o : Option Reason). option_map (reason_as_written (flushed_places places.lists places.before) c.args.direction) o) (sym (ap option_copied c.in-Some.is))
