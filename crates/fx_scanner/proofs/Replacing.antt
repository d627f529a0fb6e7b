-- What is held while old uses are replaced by new ones.
use Rattle.std.proofs.Common.{not, List, ◌++◌, filter}
use Rattle.fx_names.specs.Digests.{Digest}
use Rattle.fx_model.specs.Sinks.{Uses}
use Rattle.fx_model.specs.declared.set_use.SetUse.{SetUse}
use Rattle.fx_scanner.specs.Told.{AreHeld, AreApartFrom}
use Rattle.fx_scanner.specs.Uses.{Counts, is_among}
use Rattle.fx_scanner.proofs.Bags.{parted, swapped}
use Rattle.fx_scanner.proofs.FilledUses.{apart_with_kept}
use Rattle.fx_scanner.proofs.TellSteps.{held_same}

module _ (dg : Digest) (before after others : List SetUse) where
  abbrev pub gone : List SetUse
  gone = filter (λ u. not (is_among after u)) before

  abbrev pub kept : List SetUse
  kept = filter (λ u. is_among after u) before

  pub held_parted : (counts : Counts) (uses : Uses) → AreHeld dg counts uses (before ++ others) → AreHeld dg counts uses (gone ++ (kept ++ others))
  held_parted counts uses h = held_same dg counts uses (before ++ others) (gone ++ (kept ++ others)) (parted (is_among after) before others) h

  pub held_turned : (counts : Counts) (uses : Uses) → AreHeld dg counts uses (after ++ (kept ++ others)) → AreHeld dg counts uses (kept ++ (after ++ others))
  held_turned counts uses h = held_same dg counts uses (after ++ (kept ++ others)) (kept ++ (after ++ others)) (swapped after kept others) h

  pub kept_apart : AreApartFrom dg after others → AreApartFrom dg after (kept ++ others)
  kept_apart apart = apart_with_kept dg after before others apart
