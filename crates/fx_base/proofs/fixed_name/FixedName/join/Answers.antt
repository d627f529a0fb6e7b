use Rattle.fx_base.proofs.PaddedLemmas.{IsPadded-joined, take-joined}
use Rattle.fx_base.proofs.fixed_name.FixedName.join.Goals as goal

pub invariant_of-result : goal.invariant_of-result
invariant_of-result g c = IsPadded-joined _ c.args.prefix.now c.args.rest.now _ _ _ c.copy_from_slice.ensures.after c.copy_from_slice-2.ensures.after c.split_at_mut-head.ensures.back c.requires.fits

pub returns : goal.returns
returns g c = take-joined _ c.args.prefix.now c.args.rest.now _ _ _ c.copy_from_slice.ensures.after c.copy_from_slice-2.ensures.after c.split_at_mut-head.ensures.back
