-- A profile's key fits behind its chains' prefixes.
use Rattle.std.proofs.Common.{◌≡◌, ◌≤◌, ◌||◌, ◌&&◌, ◌==◌, Bool, true, false, not, List, ℕ, length, refl, arith}
use Rattle.std.specs.Prelude.{nat_lt, slice_index, if◌then◌else◌}
use Rattle.std.proofs.lemmas.List.{length-take}
use Rattle.std.proofs.lemmas.Bool.Decides.{nat_tests}
use Rattle.std.proofs.lemmas.Bool.{le-leb}
use Rattle.fx_names.specs.Digests.{Digest}
use Rattle.fx_names.specs.Names.{is_whole, shortened, digest_text}
use Rattle.fx_names.specs.declared.prefix.Prefix.TheVariants.{ProfileIn}
use Rattle.fx_model.specs.Views.{profile_key}
use Rattle.fx_model.specs.Formed.{is_formed_profile_key}

whole_fits : (s : List ℕ) → (nat_lt (length s) 19 || ((length s == 19) && not (slice_index s 0 == 95))) ≡ true → length s ≤ 19
whole_fits s h = grind (arith, nat_tests, h)

pub profile_key_fits : (dg : Digest) (name : List ℕ) → is_formed_profile_key (profile_key dg name) ≡ true
profile_key_fits dg name = le-leb (length (profile_key dg name)) 19 (by_test (is_whole ProfileIn name) refl)
  where
    by_test : (b : Bool) → is_whole ProfileIn name ≡ b → length (if b then name else shortened dg 19 name) ≤ 19
    by_test true is = whole_fits name is
    by_test false is = omega (arith, length-take 18 (digest_text dg name))
