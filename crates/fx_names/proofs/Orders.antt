-- The order of names.
use Rattle.std.specs.Cmp.{IsTotalOrder}
use Rattle.std.specs.FinMap.{IsAntisymmetric}
use Rattle.fx_base.specs.Same.{exact_by}
use Rattle.fx_base.specs.SameName.{same_kernel_name}
use Rattle.fx_base.specs.contracts.kernel_name.KernelNamePartialEq.TheImpl.{eq-value}
use Rattle.fx_base.specs.contracts.kernel_name.KernelNameOrd.TheImpl.{cmp-value}
use Rattle.fx_base.specs.contracts.kernel_name.KernelNameOrd.TheImpl.Laws.{total-law, matches_eq-law}

pub name_total : IsTotalOrder cmp-value.it
name_total = total-law

pub exact_name : IsAntisymmetric cmp-value.it
exact_name = exact_by eq-value.it cmp-value.it matches_eq-law same_kernel_name
