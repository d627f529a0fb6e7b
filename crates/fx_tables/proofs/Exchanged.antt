-- What a map of sets is after a set was taken out and put back.
use Rattle.std.proofs.Common.{◌≡◌, ℕ, List, Some, IsSome, sym, ap}
use Rattle.std.specs.Prelude.{OnErr, Result, Ok, Err}
use Rattle.std.specs.FinMap as map
use Rattle.fx_model.specs.Messages.{Members, members_of}
use Rattle.fx_model.specs.Tables.{Sets}
use Rattle.fx_tables.proofs.Swapped.{still_there, put_instead, put_again}

pub put_there : (sets more : Sets) (name : List ℕ) (members : Members) → more ≡ map.insert sets name members → IsSome (map.get more name)
put_there sets more name members e = still_there sets more name members e

-- what was taken out is what was there
pub taken_is : (sets : Sets) (name : List ℕ) (members : Members) → map.get sets name ≡ Some members → members ≡ members_of (map.get sets name)
taken_is sets name members e = sym (ap members_of e)

-- two exchanges leave the second value
pub twice : (sets more last : Sets) (name : List ℕ) (first second : Members) → more ≡ map.insert sets name first → last ≡ map.insert more name second → last ≡ map.insert sets name second
twice sets more last name first second e f = put_instead sets more last name first second e f

-- to put back what was taken out changes nothing
pub put_back : (sets more last : Sets) (name : List ℕ) (first second : Members) → map.get sets name ≡ Some second → more ≡ map.insert sets name first → last ≡ map.insert more name second → last ≡ sets
put_back sets more last name first second was e f = put_again sets more last name first second was e f

pub on_err : {T E P : Type 0} (r : Result T E) → P → OnErr r P
on_err (Ok x) p = tt
on_err (Err e) p = p

pub ruleset exchanged = (put_there, taken_is, twice, put_back)
