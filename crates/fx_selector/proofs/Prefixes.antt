-- What was read before, and what is read on from there.
use Rattle.std.proofs.Common.{ℕ, List, ◌++◌}
use Rattle.fx_selector.specs.Reading.{Res, Got, bind}

abbrev pub with_all : List ℕ → Res (List ℕ) → Res (List ℕ)
with_all prefix x = bind x (λ v rest. Got (prefix ++ v) rest)
