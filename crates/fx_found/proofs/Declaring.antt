-- What is known of rows that may stand together and have no fault: their headers are distinct, and their chains can be written.
use Rattle.std.proofs.Common.{◌≡◌, ◌≢◌, ◌+◌, ℕ, Bool, true, false, ◌&&◌, List, [], ◌∷◌, ◌++◌, map, Option, Some, None, refl, sym, ap, ◌∙◌}
use Rattle.std.specs.Prelude.{if◌then◌else◌}
use Rattle.std.specs.List.{AllByRecursion, list_all}
use Rattle.std.specs.Str.{bytes_eq}
use Rattle.std.specs.FinMap as maps
use Rattle.std.proofs.lemmas.Bool.{and_parts, and_from, not-true, ltb-true, false≢true, false_from_ne_true}
use Rattle.fx_base.specs.Same.{same_bytes}
use Rattle.fx_base.proofs.KeyCases.{there_insert, there_inserted}
use Rattle.fx_model.specs.declared.chain.Match.{Match}
use Rattle.fx_model.specs.declared.chain.Match.TheVariants as match
use Rattle.fx_model.specs.declared.chain.Target.{Target}
use Rattle.fx_model.specs.declared.chain.Target.TheVariants as target
use Rattle.fx_model.specs.declared.chain.ChainRule.{ChainRule}
use Rattle.fx_model.specs.Closed.{LeadsThere, NamesThere, MatchesNameThere}
use Rattle.fx_model.specs.Messages.{or_else}
use Rattle.fx_model.specs.Ranks.{rank_of, LeadsBelow}
use Rattle.fx_model.specs.Shapes.{has_shape, have_shape}
use Rattle.fx_model.specs.Tables.{ChainName, Chains, Tables}
use Rattle.fx_model.specs.Writing.{IsWritable, CanBeWritten}
use Rattle.fx_found.specs.declared.row.Row.{Row}
use Rattle.fx_found.specs.declared.row.Row.TheVariants as row
use Rattle.fx_found.specs.declared.row.Part.{Part}
use Rattle.fx_found.specs.declared.found.FoundFault.{FoundFault}
use Rattle.fx_found.specs.declared.found.FoundFault.TheVariants as fault
use Rattle.fx_found.specs.Order.{may_stand, part_after, declared_after, is_new, first_bad}
use Rattle.fx_found.specs.RuleFaults.{leads_there, names_there, is_closed, leads_below, rule_fault, first_fault}
use Rattle.fx_found.specs.ReadRows.{IsReadRow}
use Rattle.fx_found.specs.Headers.{AreDistinct}
use Rattle.fx_found.specs.Found.{headers_of, rules_at, writes_of}

-- ---- answers that are none

none_of_both : {A : Type 0} (x y : Option A) → or_else x y ≡ None → (x ≡ None) × (y ≡ None)
none_of_both None y e = (refl, e)
none_of_both (Some a) y e = cc

passed_through : {A : Type 0} (b : Bool) (x : Option A) (a : A) → (if b then x else Some a) ≡ None → (b ≡ true) × (x ≡ None)
passed_through true x a e = (refl, e)
passed_through false x a e = cc

-- ---- headers

all_weaker : {A : Type 0} (P Q : A → Type 0) → ((x : A) → P x → Q x) → (xs : List A) → AllByRecursion P xs → AllByRecursion Q xs
all_weaker P Q weaker [] all = tt
all_weaker P Q weaker (x ∷ xs) all = (weaker x all.0, all_weaker P Q weaker xs all.1)

abbrev pub IsAbsent : Chains → ChainName → Type 0
IsAbsent chains name = maps.contains_key chains name ≡ false

absent_before : (chains : Chains) (chain name : ChainName) → IsAbsent (maps.insert chains chain []) name → IsAbsent chains name
absent_before chains chain name e = false_from_ne_true (maps.contains_key chains name) (λ h. false≢true (sym e ∙ there_insert chains chain [] name h))

other_name : (chains : Chains) (chain name : ChainName) → IsAbsent (maps.insert chains chain []) name → name ≢ chain
other_name chains chain name e same = false≢true (sym e ∙ ap (maps.contains_key (maps.insert chains chain [])) same ∙ there_inserted chains chain [])

pub record AreHeaders (chains : Chains) (names : List ChainName) : Type 0 where
  pub absent : AllByRecursion (IsAbsent chains) names
  pub distinct : AreDistinct names

header_added : (t : Tables) (r : Row) (rows : List Row) → is_new t r ≡ true → AreHeaders (declared_after t r).chains (headers_of rows) → AreHeaders t.chains (headers_of (r ∷ rows))
header_added t row.Bad rows new later = later
header_added t row.Filter rows new later = later
header_added t row.Commit rows new later = later
header_added t (row.Create name) rows new later = later
header_added t (row.Add name m) rows new later = later
header_added t (row.Header chain) rows new later = record {
  absent = (not-true (maps.contains_key t.chains chain) new, all_weaker (IsAbsent (maps.insert t.chains chain [])) (IsAbsent t.chains) (absent_before t.chains chain) (headers_of rows) later.absent);
  distinct = (all_weaker (IsAbsent (maps.insert t.chains chain [])) (λ other. other ≢ chain) (other_name t.chains chain) (headers_of rows) later.absent, later.distinct);
}
header_added t (row.Rule chain r) rows new later = later
header_added t row.ForeignSet rows new later = later
header_added t row.ForeignHeader rows new later = later
header_added t (row.ForeignRule uses) rows new later = later

pub are_headers : (n : ℕ) (p : Part) (t : Tables) (rows : List Row) → first_bad n p t rows ≡ None → AreHeaders t.chains (headers_of rows)
are_headers n p t [] e = record { absent = tt; distinct = tt }
are_headers n p t (r ∷ rows) e =
    let step = passed_through (may_stand p r && is_new t r) (first_bad (n + 1) (part_after p r) (declared_after t r) rows) n e in
    header_added t r rows (and_parts (may_stand p r) (is_new t r) step.0).1 (are_headers (n + 1) (part_after p r) (declared_after t r) rows step.1)

-- ---- rules

-- chains and sets that have what is declared
module _ (t : Tables) (chains : Chains) (more : (k : ChainName) → maps.contains_key t.chains k ≡ true → maps.contains_key chains k ≡ true) where
  lead_there : (to : Target) → leads_there t to ≡ true → LeadsThere chains to
  lead_there target.Accept e = tt
  lead_there target.Drop e = tt
  lead_there target.Return e = tt
  lead_there (target.Jump to) e = more to e
  lead_there (target.Goto to) e = more to e
  lead_there (target.Mark value mask) e = tt
  lead_there target.Log e = tt

  name_there : (m : Match) → names_there t m ≡ true → NamesThere t.sets m
  name_there (match.Proto proto opposite) e = tt
  name_there (match.Net end net opposite) e = tt
  name_there (match.Iface end name wild) e = tt
  name_there (match.Mark value mask) e = tt
  name_there (match.State related_established) e = tt
  name_there (match.Set end name opposite) e = e
  name_there (match.Ports end list opposite) e = tt
  name_there (match.Icmp icmp opposite) e = tt

  all_name_there : (ms : List Match) → list_all (names_there t) ms ≡ true → MatchesNameThere t.sets ms
  all_name_there [] e = tt
  all_name_there (m ∷ ms) e = let parts = and_parts (names_there t m) (list_all (names_there t) ms) e in (name_there m parts.0, all_name_there ms parts.1)

  lead_below : (rank : ℕ) (to : Target) → leads_below rank to ≡ true → LeadsBelow rank to
  lead_below rank target.Accept e = tt
  lead_below rank target.Drop e = tt
  lead_below rank target.Return e = tt
  lead_below rank (target.Jump to) e = ltb-true (rank_of to) rank e
  lead_below rank (target.Goto to) e = ltb-true (rank_of to) rank e
  lead_below rank (target.Mark value mask) e = tt
  lead_below rank target.Log e = tt

  -- a rule without a fault can stand in its chain
  added_rule : (name chain : ChainName) (r : ChainRule) (rules : List ChainRule) → is_closed t chain r ≡ true → leads_below (rank_of chain) r.target ≡ true → has_shape r ≡ true → IsWritable t.sets chains name rules → (b : Bool) → bytes_eq chain name ≡ b → IsWritable t.sets chains name ((if b then r ∷ [] else []) ++ rules)
  added_rule name chain r rules closed below shape is false e = is
  added_rule name chain r rules closed below shape is true e =
      let parts = and_parts (maps.contains_key t.chains chain) (leads_there t r.target && list_all (names_there t) r.matches) closed in
      let inner = and_parts (leads_there t r.target) (list_all (names_there t) r.matches) parts.1 in
      record {
        there = (lead_there r.target inner.0, is.there);
        below = (lead_below (rank_of name) r.target (ap (λ (n : ChainName). leads_below (rank_of n) r.target) (sym (same_bytes chain name e)) ∙ below), is.below);
        named = (all_name_there r.matches inner.1, is.named);
        shaped = and_from (has_shape r) (have_shape rules) shape is.shaped;
      }

  no_fault : (n : ℕ) (chain : ChainName) (r : ChainRule) → rule_fault n t chain r ≡ None → (is_closed t chain r ≡ true) × (leads_below (rank_of chain) r.target ≡ true)
  no_fault n chain r e =
      let closed = passed_through (is_closed t chain r) (if leads_below (rank_of chain) r.target then None else Some (fault.RankRow n)) (fault.OpenRow n) e in
      (closed.0, (passed_through (leads_below (rank_of chain) r.target) None (fault.RankRow n) closed.1).0)

  foreign_none : (n : ℕ) (uses : Bool) (later : Option FoundFault) → or_else (if uses then Some (fault.ForeignUse n) else None) later ≡ None → later ≡ None
  foreign_none n true later e = cc
  foreign_none n false later e = e

  rules_writable : (name : ChainName) (n : ℕ) (rows : List Row) → AllByRecursion IsReadRow rows → first_fault n t rows ≡ None → IsWritable t.sets chains name (rules_at name rows)
  rules_writable name n [] read e = record { there = tt; below = tt; named = tt; shaped = refl }
  rules_writable name n (row.Bad ∷ rows) read e = rules_writable name (n + 1) rows read.1 e
  rules_writable name n (row.Filter ∷ rows) read e = rules_writable name (n + 1) rows read.1 e
  rules_writable name n (row.Commit ∷ rows) read e = rules_writable name (n + 1) rows read.1 e
  rules_writable name n (row.Create set ∷ rows) read e = rules_writable name (n + 1) rows read.1 e
  rules_writable name n (row.Add set m ∷ rows) read e = rules_writable name (n + 1) rows read.1 e
  rules_writable name n (row.Header chain ∷ rows) read e = rules_writable name (n + 1) rows read.1 e
  rules_writable name n (row.Rule chain r ∷ rows) read e =
      let both = none_of_both (rule_fault n t chain r) (first_fault (n + 1) t rows) e in
      let right = no_fault n chain r both.0 in
      added_rule name chain r (rules_at name rows) right.0 right.1 read.0 (rules_writable name (n + 1) rows read.1 both.1) (bytes_eq chain name) refl
  rules_writable name n (row.ForeignSet ∷ rows) read e = rules_writable name (n + 1) rows read.1 e
  rules_writable name n (row.ForeignHeader ∷ rows) read e = rules_writable name (n + 1) rows read.1 e
  rules_writable name n (row.ForeignRule uses ∷ rows) read e = rules_writable name (n + 1) rows read.1 (foreign_none n uses (first_fault (n + 1) t rows) e)

-- each chain can be written at its turn
module _ (t : Tables) (rows : List Row) (read : AllByRecursion IsReadRow rows) (none : first_fault 0 t rows ≡ None) where
  named_writable : (names : List ChainName) (chains : Chains) → ((k : ChainName) → maps.contains_key t.chains k ≡ true → maps.contains_key chains k ≡ true) → CanBeWritten t.sets chains (map (λ name. (name, rules_at name rows)) names)
  named_writable [] chains more = tt
  named_writable (name ∷ names) chains more =
      (rules_writable t chains more name 0 rows read none, named_writable names (maps.insert chains name (rules_at name rows)) (λ k h. there_insert chains name (rules_at name rows) k (more k h)))

  pub chains_writable : CanBeWritten t.sets t.chains (writes_of rows)
  chains_writable = named_writable (headers_of rows) t.chains (λ k h. h)
