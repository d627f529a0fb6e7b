-- Keys are pending where what was sent is not what is wanted, for each kind of message that tells of it.
use Rattle.std.specs.Prelude.{◌≡◌, ℕ, List, Bool, true, false, not, ◌&&◌, ◌||◌, Option, Some, None, is_some}
use Rattle.std.specs.Option.{option_eq}
use Rattle.std.specs.Ordering.{nat_cmp}
use Rattle.std.specs.Cmp.Lexicographic.{slice_cmp}
use Rattle.std.specs.FinMap as maps
use Rattle.fx_base.specs.Extended.{taken_from}
use Rattle.fx_base.specs.Set as set
use Rattle.fx_model.specs.Messages.{Named, Members}
use Rattle.fx_model.specs.contracts.member.MemberSetPartialEq.TheImpl as members_eq
use Rattle.fx_sequencer.specs.TwoSides.{TwoSides, side_at}
use Rattle.fx_sequencer.specs.Entry.{sent_of, wanted_of, is_exact}
use Rattle.fx_sequencer.specs.declared.entry.Entry.{Entry}

-- keys, in the order of their bytes
abbrev pub Keys : Type 0
Keys = set.Set (slice_cmp nat_cmp)

-- without this key, if there is one
abbrev pub without : Option (List ℕ) → Keys → Keys
without None keys = keys
without (Some k) keys = set.remove keys k

-- the map m, but at the key of this entry as n is there
abbrev pub taken_first : {X : Type 0} → Option (List ℕ × X) → Named X → Named X → Named X
taken_first None m n = m
taken_first (Some e) m n = taken_from m n e.0

-- ---- what a message tells of a key, by its two sides

-- it is wanted, and was not sent; with the sides exchanged, it was sent and is wanted no more
abbrev pub comes : {X : Type 0} → Option X → Option X → Bool
comes sent None = false
comes sent (Some x) = not (is_some sent)

-- it is wanted, and was not sent, or as another value
abbrev pub changes : {X : Type 0} → (X → X → Bool) → Option X → Option X → Bool
changes eq sent None = false
changes eq sent (Some x) = not (option_eq eq sent (Some x))

-- it is wanted, and was sent as another value
abbrev pub alters : {X : Type 0} → (X → X → Bool) → Option X → Option X → Bool
alters eq sent None = false
alters eq sent (Some x) = is_some sent && not (option_eq eq sent (Some x))

-- ---- the keys of a map with values

-- a key is pending exactly where its sides differ so, and it is kept only where it has a side
pub record ArePending {X : Type 0} (eq : X → X → Bool) (held : Named (Entry X)) (to_put to_take : Keys) : Type 0 where
  pub exact : (k : List ℕ) → is_exact eq (maps.get held k) ≡ true
  pub puts : (k : List ℕ) → set.contains to_put k ≡ changes eq (side_at sent_of held k) (side_at wanted_of held k)
  pub takes : (k : List ℕ) → set.contains to_take k ≡ comes (side_at wanted_of held k) (side_at sent_of held k)

-- ---- the names of sets

-- a set by both sides
abbrev pub SetSides : Type 0
SetSides = TwoSides (Option Members)

abbrev pub sent_set : SetSides → Option Members
sent_set s = s.sent

abbrev pub wanted_set : SetSides → Option Members
wanted_set s = s.wanted

-- it has a side, if it is kept
abbrev pub has_side : Option SetSides → Bool
has_side None = true
has_side (Some s) = is_some s.sent || is_some s.wanted

-- sets as a whole are compared as Rust's `==` does
abbrev pub same_sets : Members → Members → Bool
same_sets = members_eq.eq-value.it

-- a name is pending exactly where its sides differ so, and it is kept only where it has a side
pub record ArePendingSets (held : Named SetSides) (to_add to_change to_take : Keys) : Type 0 where
  pub there : (k : List ℕ) → has_side (maps.get held k) ≡ true
  pub adds : (k : List ℕ) → set.contains to_add k ≡ comes (side_at sent_set held k) (side_at wanted_set held k)
  pub changed : (k : List ℕ) → set.contains to_change k ≡ alters same_sets (side_at sent_set held k) (side_at wanted_set held k)
  pub takes : (k : List ℕ) → set.contains to_take k ≡ comes (side_at wanted_set held k) (side_at sent_set held k)
