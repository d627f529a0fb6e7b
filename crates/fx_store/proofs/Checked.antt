-- The first clash of new claims, as they are checked one after another.
use Rattle.std.proofs.Common.{◌≡◌, ℕ, ◌+◌, ◌<◌, List, [], ◌∷◌, ◌++◌, length, get_or, take, drop, Option, Some, None, Result, Ok, Err, refl, sym, ◌∙◌, subst}
use Rattle.std.specs.Prelude.{IsErrAnd}
use Rattle.fx_names.specs.declared.claim.Claim.{Claim}
use Rattle.fx_names.specs.Claims.{Clash, other_holder, first_clash}
use Rattle.fx_names.proofs.ClaimLists.{other_holder-first, other_holder-later, first_clash-hit, first_clash-miss, first_clash-head, first_clash-at, first_clash-more}
use Rattle.fx_store.specs.declared.fault.CheckFault.{CheckFault}
use Rattle.fx_store.specs.declared.fault.CheckFault.TheVariants.{Taken, Memory}
use Rattle.fx_store.specs.Checking.{IsCheckFault, Tells}

module _ (kept cs : List Claim) (i : ℕ) (c : Claim) (h : i < length cs) (e : c ≡ get_or cs i c) where
  -- among the claims `held` the claim clashes alone, and it is the first that does
  clash_among : (held : List Claim) → ((t : List ℕ) → other_holder held c ≡ Some t → other_holder (kept ++ take i cs) c ≡ Some t) → (f : CheckFault) → IsCheckFault f (first_clash held (c ∷ [])) → IsCheckFault f (first_clash (kept ++ take i cs) (drop i cs))
  clash_among held there Memory g = tt
  clash_among held there (Taken name holder) g = by_holder (other_holder held c) refl
    where
      by_holder : (o : Option (List ℕ)) → other_holder held c ≡ o → first_clash (kept ++ take i cs) (drop i cs) ≡ Some (record { name = name; holder = holder })
      by_holder None q = let no = sym g ∙ first_clash-miss held c [] q in cc
      by_holder (Some t) q = first_clash-at kept cs i c h e t (there t q) ∙ sym (first_clash-hit held c [] t q) ∙ g

  pub clash_held : (f : CheckFault) → IsCheckFault f (first_clash kept (c ∷ [])) → IsCheckFault f (first_clash (kept ++ take i cs) (drop i cs))
  clash_held = clash_among kept (λ t q. other_holder-first kept (take i cs) c t q)

  module _ (free : first_clash kept (c ∷ []) ≡ None) where
    later : other_holder (kept ++ take i cs) c ≡ other_holder (take i cs) c
    later = other_holder-later kept (take i cs) c (first_clash-head kept c [] free)

    pub clash_seen : (f : CheckFault) → IsCheckFault f (first_clash (take i cs) (c ∷ [])) → IsCheckFault f (first_clash (kept ++ take i cs) (drop i cs))
    clash_seen = clash_among (take i cs) (λ t q. later ∙ q)

    pub no_clash : first_clash (take i cs) (c ∷ []) ≡ None → first_clash (kept ++ take i cs) (drop i cs) ≡ first_clash (kept ++ take (i + 1) cs) (drop (i + 1) cs)
    no_clash seen = first_clash-more kept cs i c h e (later ∙ first_clash-head (take i cs) c [] seen)

-- a fault that is handed on says what it said
pub fault_on : {T : Type 0} (r : Result T CheckFault) (e : CheckFault) (o : Option Clash) → IsErrAnd r (λ f. f ≡ e) → IsCheckFault e o → Tells r o
fault_on (Ok x) e o h g = absurd h
fault_on (Err f) e o h g = subst (λ w. IsCheckFault w o) (sym h) g
