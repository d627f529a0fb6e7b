use Rattle.std.proofs.Common.{◌≡◌, Option, sym, subst}
use Rattle.std.specs.Prelude.{OnOk}
use Rattle.felix_services.specs.declared.noting.Note.{Note}
use Rattle.felix_services.specs.Noting.{noted}
use Rattle.felix_services.proofs.noting.take_note.Goals as goal

pub returns-in-Some-clause-lists : goal.returns-in-Some-clause-lists
returns-in-Some-clause-lists c =
    subst (λ (n : Option Note). OnOk c.keep.result (c.keep.new.places.lists ≡ noted c.args.places.now.lists n)) (sym c.in-Some.is) c.keep.ensures.lists
