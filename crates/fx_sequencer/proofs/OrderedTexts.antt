-- The first of an ordered set's texts, as a walk finds it and as it is taken out.
use Rattle.std.proofs.Common.{◌≡◌, ◌↔◌, ◌<◌, ℕ, List, [], ◌∷◌, length, Option, Some, None, IsSome, refl, sym, ap, ◌∙◌, arith}
use Rattle.std.specs.Prelude.{IfSome, IfNone, MatchOption, false, true}
use Rattle.std.specs.List.{slice_get}
use Rattle.std.specs.Option.{option_copied}
use Rattle.std.specs.Ordering.{nat_cmp}
use Rattle.std.specs.BTreeSet.{BTreeSet, IsUnchanged, Updates}
use Rattle.std.specs.Cmp.Lexicographic.{slice_cmp, nat_list_cmp_total}
use Rattle.fx_base.specs.Set as set
use Rattle.fx_base.proofs.Entries.{taken_out}
use Rattle.fx_base.proofs.KeyCases.{bytes_exact}
use Rattle.fx_sequencer.specs.Pending.{Keys, without}
use denote.Ref.{Bor}

-- what a walk gives first
pub walked_first : {A : Type 0} (found : Option (Bor A)) (ks rest : List A) → MatchOption found ((ks ≡ []) × (rest ≡ [])) (λ x. ks ≡ x.now ∷ rest) → option_copied found ≡ slice_get ks 0
walked_first None ks rest is = sym (ap (λ xs. slice_get xs 0) is.0)
walked_first (Some x) ks rest is = sym (ap (λ xs. slice_get xs 0) is)

-- what is taken out is the first, and nothing only where there is none
pub first_out : {A : Type 0} (out : Option A) (ks rest : List A) → (IsSome out ↔ (0 < length ks)) → IfSome out (λ k. ks ≡ k ∷ rest) → out ≡ slice_get ks 0
first_out None [] rest there is = refl
first_out None (k ∷ ks) rest there is = let some : false ≡ true = there.1 (omega arith) in cc
first_out (Some k) ks rest there is = sym (ap (λ xs. slice_get xs 0) is)

module _ (was now : BTreeSet (List ℕ)) (s : Keys) (is : set.from_list was.keys ≡ s) where
  -- the others stay
  pub others_left : (out : Option (List ℕ)) → IfSome out (λ k. Updates (slice_cmp nat_cmp) was now k false) → IfNone out (IsUnchanged was now) → set.from_list now.keys ≡ without out s
  others_left None updates same = ap set.from_list same ∙ is
  others_left (Some k) updates same = taken_out nat_list_cmp_total bytes_exact was.keys now.keys s is k updates.0
