-- Names of a formed view fit behind the prefixes of chains.
use Rattle.std.proofs.Common.{◌≡◌, Bool, true, List, [], ◌∷◌}
use Rattle.std.specs.List.{AllByRecursion, list_all}
use Rattle.std.specs.FinMap as maps
use Rattle.fx_base.specs.Same.{both_pass}
use Rattle.fx_model.specs.declared.view.View.{View}
use Rattle.fx_model.specs.Formed.{is_formed_view, is_formed_view_endpoint, is_formed_view_profile}

each : {A : Type 0} (p : A → Bool) (xs : List A) → list_all p xs ≡ true → AllByRecursion (λ x. p x ≡ true) xs
each p [] h = tt
each p (x ∷ xs) h = let b = both_pass (p x) (list_all p xs) h in (b.0, each p xs b.1)

module _ (v : View) (formed : is_formed_view v ≡ true) where
  both : (list_all is_formed_view_endpoint (maps.entries v.endpoints) ≡ true) × (list_all is_formed_view_profile (maps.entries v.profiles) ≡ true)
  both = both_pass (list_all is_formed_view_endpoint (maps.entries v.endpoints)) (list_all is_formed_view_profile (maps.entries v.profiles)) formed

  pub endpoints_short : AllByRecursion (λ e. is_formed_view_endpoint e ≡ true) (maps.entries v.endpoints)
  endpoints_short = each is_formed_view_endpoint (maps.entries v.endpoints) both.0

  pub profiles_short : AllByRecursion (λ e. is_formed_view_profile e ≡ true) (maps.entries v.profiles)
  profiles_short = each is_formed_view_profile (maps.entries v.profiles) both.1
