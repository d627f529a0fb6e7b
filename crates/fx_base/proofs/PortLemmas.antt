-- The two ends of a range of ports.
use Rattle.std.proofs.Common.{ℕ, List, [], refl, arith, inl}
use Rattle.fx_base.specs.Forms.{Means, Leaves, IsOptional}
use Rattle.fx_base.specs.PortTexts.{UpperEnd}
use Rattle.fx_base.proofs.FormLemmas.{CanFollow, optional_stops}

pub upper_can : CanFollow 0 65535 UpperEnd
upper_can = record {
  stops = λ low rest ports h. optional_stops low 58 low 65535 (λ d. absurd (omega arith)) rest ports.1 h.1;
  some = λ low a b. ([], ((low, low), (refl, inl (refl, refl))));
}

module _ (low : ℕ) (rest : List ℕ) where
  pub upper_means : (high : ℕ) → Means (IsOptional low 58 low 65535) rest high → Means (UpperEnd low) rest (low, high)
  upper_means high m = record { is = (refl, m.is); only = λ ports h. let e = m.only ports.1 h.1 in λ i. (h.0 i, e i) }

  pub upper_leaves : (n : ℕ) → Leaves (IsOptional low 58 low 65535) rest n → Leaves (UpperEnd low) rest n
  upper_leaves n m = record {
    none = λ ports h. m.none ports.1 h.1;
    goes = record {
      within = m.goes.within;
      begins = let b = m.goes.begins in (b.0, ((low, b.1.0), (refl, b.1.1)));
      furthest = λ i fits b. m.goes.furthest i fits (b.0, (b.1.0.1, b.1.1.1));
    };
  }
