-- The bytes of a name that the kernel knows.
use Rattle.std.specs.Prelude.{ℕ, List}
use Rattle.fx_base.specs.declared.kernel_name.KernelName.{KernelName}
use Rattle.fx_base.specs.declared.kernel_name.KernelName.TheVariants.{Chain, Set}

abbrev pub kernel_bytes : KernelName → List ℕ
kernel_bytes (Chain name) = name
kernel_bytes (Set name) = name
