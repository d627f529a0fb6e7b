-- A use at its place in a list that is walked.
use Rattle.std.proofs.Common.{◌≡◌, ℕ, ◌+◌, ◌<◌, List, ◌∷◌, ◌++◌, length, take, drop, get_or, sym, ◌∙◌, subst, add-one, drop-cons}
use Rattle.std.specs.List.{AllByRecursion}
use Rattle.std.proofs.lemmas.List.Elements.{All-from_recursion, All-get_or}
use Rattle.fx_names.specs.Digests.{Digest}
use Rattle.fx_model.specs.declared.set_use.SetUse.{SetUse}
use Rattle.fx_scanner.specs.Told.{clashes, AreApartFrom}
use Rattle.fx_scanner.specs.Uses.{times}
use Rattle.fx_scanner.proofs.Bags.{none_in_first, none_in_second, none_in_both, none_in_front}

pub at_place : (P : SetUse → Type 0) (us : List SetUse) (i : ℕ) (u : SetUse) → i < length us → u ≡ get_or us i u → AllByRecursion P us → P u
at_place P us i u within is all = subst P (sym is) (All-get_or P us i u within (All-from_recursion P us all))

pub rest_at : (us : List SetUse) (i : ℕ) (u : SetUse) → i < length us → u ≡ get_or us i u → drop i us ≡ u ∷ drop (i + 1) us
rest_at us i u within is = drop-cons us i u within ∙ (λ j. sym is j ∷ drop (sym (add-one i) j) us)

-- a use does not clash with those before it, nor with the others
pub apart_at : (dg : Digest) (us others : List SetUse) (i : ℕ) (u : SetUse) → i < length us → u ≡ get_or us i u → AreApartFrom dg us others → times (clashes dg u) (take i us ++ others) ≡ 0
apart_at dg us others i u within is apart =
    let none : times (clashes dg u) (us ++ others) ≡ 0 = at_place (λ v. times (clashes dg v) (us ++ others) ≡ 0) us i u within is apart in
    none_in_both (clashes dg u) (take i us) others (none_in_front (clashes dg u) us i (none_in_first (clashes dg u) us others none)) (none_in_second (clashes dg u) us others none)
