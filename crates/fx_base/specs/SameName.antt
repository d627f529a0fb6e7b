-- `==` tells all names that the kernel knows apart.
use Rattle.std.specs.Prelude.{◌≡◌, true}
use Rattle.fx_base.specs.Same.{same_bytes}
use Rattle.fx_base.specs.declared.kernel_name.KernelName.{KernelName}
use Rattle.fx_base.specs.declared.kernel_name.KernelName.TheVariants.{Chain, Set}
use Rattle.fx_base.specs.contracts.kernel_name.KernelNamePartialEq.TheImpl.{eq-value}

pub same_kernel_name : (x y : KernelName) → eq-value.it x y ≡ true → x ≡ y
same_kernel_name (Chain a) (Chain b) e = λ i. Chain (same_bytes a b e i)
same_kernel_name (Set a) (Set b) e = λ i. Set (same_bytes a b e i)
same_kernel_name (Chain a) (Set b) e = cc
same_kernel_name (Set a) (Chain b) e = cc
