-- What new tables and a new set lack.
use Rattle.std.proofs.Common.{◌≡◌, ℕ, List, true, false, is_some, ap, ◌∙◌}
use Rattle.std.specs.FinMap as map
use Rattle.fx_base.specs.Set as set
use Rattle.fx_base.proofs.AtKey.{get_empty, get_insert_same}
use Rattle.fx_model.specs.declared.member.Member.{Member}
use Rattle.fx_model.specs.contracts.member.MemberOrd.TheImpl as member_cmp
use Rattle.fx_model.specs.Messages.{members_of}
use Rattle.fx_model.specs.Tables.{Tables}

pub new_lacks : (t : Tables) (name : List ℕ) → t ≡ record { sets = map.empty; chains = map.empty } → map.contains_key t.sets name ≡ false
new_lacks t name e = ap (λ (s : Tables). map.contains_key s.sets name) e ∙ ap is_some (get_empty name)

pub created_is_there : (s t : Tables) (name : List ℕ) → t ≡ record s { sets = map.insert s.sets name set.empty } → map.contains_key t.sets name ≡ true
created_is_there s t name e = ap (λ (u : Tables). map.contains_key u.sets name) e ∙ ap is_some (get_insert_same s.sets name set.empty)

pub created_lacks : (s t : Tables) (name : List ℕ) (x : Member) → t ≡ record s { sets = map.insert s.sets name set.empty } → set.contains (members_of (map.get t.sets name)) x ≡ false
created_lacks s t name x e =
    ap (λ (u : Tables). set.contains (members_of (map.get u.sets name)) x) e
    ∙ ap (λ o. set.contains (members_of o) x) (get_insert_same s.sets name set.empty)
    ∙ ap is_some (map.get-empty member_cmp.cmp-value.it x)

pub ruleset filled = (new_lacks, created_is_there, created_lacks)
