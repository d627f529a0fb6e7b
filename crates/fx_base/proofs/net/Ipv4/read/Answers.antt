use Rattle.std.proofs.Common.{false}
use Rattle.fx_base.specs.TextValues.{address_of}
use Rattle.fx_base.proofs.ValueLemmas.{address_computes, means_computed, leaves_computed}
use Rattle.fx_base.specs.Addresses.{Dotted, IsAddress}
use Rattle.fx_base.proofs.FormLemmas.{means_alike, leaves_alike}
use Rattle.fx_base.proofs.AddressLemmas.{address_alike}
use Rattle.fx_base.proofs.net.Ipv4.read.Goals as goal

pub returns-in-Ok-clause-ok : goal.returns-in-Ok-clause-ok
returns-in-Ok-clause-ok c = means_alike (Dotted false 0 3) IsAddress (λ v. v.0) (λ a. (a, 32)) address_alike c.args.text.now _ c.in-Ok.ensures

pub returns-in-Err-clause-bad : goal.returns-in-Err-clause-bad
returns-in-Err-clause-bad c = leaves_alike (Dotted false 0 3) IsAddress (λ v. v.0) (λ a. (a, 32)) address_alike c.args.text.now c.in-Err.at c.in-Err.ensures

pub returns-in-Ok-clause-value : goal.returns-in-Ok-clause-value
returns-in-Ok-clause-value c = means_computed IsAddress address_of address_computes c.args.text.now _ (returns-in-Ok-clause-ok c)

pub returns-in-Err-clause-none : goal.returns-in-Err-clause-none
returns-in-Err-clause-none c = leaves_computed IsAddress address_of address_computes c.args.text.now _ (returns-in-Err-clause-bad c)
