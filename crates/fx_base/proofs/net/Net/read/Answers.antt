use Rattle.std.proofs.Common.{true}
use Rattle.fx_base.specs.Addresses.{IsNet}
use Rattle.fx_base.specs.TextValues.{net_of}
use Rattle.fx_base.proofs.ValueLemmas.{net_computes, means_computed, leaves_computed}
use Rattle.fx_base.specs.Addresses.{Dotted, IsCidr}
use Rattle.fx_base.proofs.FormLemmas.{means_alike, leaves_alike}
use Rattle.fx_base.proofs.AddressLemmas.{cidr_alike, net_means, net_leaves}
use Rattle.fx_base.proofs.net.Net.read.Goals as goal

pub returns-in-Ok-clause-ok : goal.returns-in-Ok-clause-ok
returns-in-Ok-clause-ok c =
    (c.if-has_colon.ensures, net_means c.args.text.now c.in-Ok.address c.in-Ok.len _ _ c.around.ensures.address c.around.ensures.length (means_alike (Dotted true 0 3) IsCidr (λ v. v) (λ v. v) cidr_alike c.args.text.now _ c.in-Ok.ensures))

pub returns-in-Err-clause-bad : goal.returns-in-Err-clause-bad
returns-in-Err-clause-bad c = (c.if-has_colon.ensures, net_leaves c.args.text.now c.in-Err.at (leaves_alike (Dotted true 0 3) IsCidr (λ v. v) (λ v. v) cidr_alike c.args.text.now c.in-Err.at c.in-Err.ensures))

pub returns-in-Err-clause-none : goal.returns-in-Err-clause-none
returns-in-Err-clause-none c = leaves_computed IsNet net_of net_computes c.args.text.now _ (returns-in-Err-clause-bad c).1

pub returns-in-Ok-clause-value : goal.returns-in-Ok-clause-value
returns-in-Ok-clause-value c = means_computed IsNet net_of net_computes c.args.text.now _ (returns-in-Ok-clause-ok c).1
