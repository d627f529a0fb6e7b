-- What stands at a name where chains were deleted.
use Rattle.std.proofs.Common.{◌≡◌, Bool, true, false, cond, ◌||◌, List, [], ◌∷◌, None, refl, ap, ◌∙◌}
use Rattle.std.specs.FinMap as maps
use Rattle.fx_base.proofs.AtKey.{get_remove}
use Rattle.fx_base.proofs.ExtendedKeys.{is_among}
use Rattle.fx_model.specs.Tables.{ChainName, Chains}
use Rattle.fx_dispatch.specs.Plans.{without}
use Rattle.fx_laws.proofs.EntryLookups.{is}

twice : {A : Type 0} (a b : Bool) (x y : A) → cond b x (cond a x y) ≡ cond (a || b) x y
twice true true x y = refl
twice true false x y = refl
twice false b x y = refl

pub get-without : (m : Chains) (ks : List ChainName) (q : ChainName) → maps.get (without m ks) q ≡ cond (is_among q ks) None (maps.get m q)
get-without m [] q = refl
get-without m (k ∷ ks) q =
    get-without (maps.remove m k) ks q ∙ ap (cond (is_among q ks) None) (get_remove m k q)
    ∙ twice (is q k) (is_among q ks) None (maps.get m q)
