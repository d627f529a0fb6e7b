-- Where the operations end, and what applying them one after the other makes.
use Rattle.std.specs.Prelude.{◌≡◌, ◌+◌, ℕ, Bool, not, if◌then◌else◌, List, [], ◌∷◌, map, true, false, Option, Some, None, option_map}
use Rattle.std.specs.FinMap as maps
use Rattle.fx_base.specs.Set as set
use Rattle.fx_model.specs.Messages.{Members, members_of}
use Rattle.fx_model.specs.Tables.{ChainName, Sets, Tables}
use Rattle.fx_model.specs.Ranks.{AllLeadBelow, rank_of}
use Rattle.fx_model.specs.Closed.{AllLeadThere, AllNameThere}
use Rattle.fx_model.specs.Shapes.{have_shape, is_member_of}
use Rattle.fx_tables.specs.Leads.{NoneLeadsTo}
use Rattle.fx_tables.specs.Names.{NoneNames}
use Rattle.fx_tables.specs.Invariant.{AreKept}
use Rattle.fx_reconcile.specs.declared.op.Op.{Op}
use Rattle.fx_reconcile.specs.declared.op.Op.TheVariants.{CreateSet, AddMember, WriteChain, DeleteChain, RemoveMember, DestroySet}
use Rattle.fx_reconcile.specs.Alike.{is_alike, held_of}
use Rattle.fx_reconcile.specs.Operations.{applied, next_operation, rules_of}

-- the same sets, and at each name a chain with the same matches and targets, or none
pub record AreAlike (n g : Tables) : Type 0 where
  pub sets : n.sets ≡ g.sets
  pub chains : (name : ChainName) → option_map (map held_of) (maps.get n.chains name) ≡ option_map (map held_of) (maps.get g.chains name)

-- the tables after these operations, in order
abbrev pub after_all : List Op → Tables → Tables → Tables
after_all [] now goal = now
after_all (op ∷ ops) now goal = after_all ops (applied op now goal) goal

-- each of these operations is the next one at its turn, and none is next after them
abbrev pub AreNextInTurn : List Op → Tables → Tables → Type 0
AreNextInTurn [] now goal = next_operation now goal ≡ None
AreNextInTurn (op ∷ ops) now goal = (next_operation now goal ≡ Some op) × AreNextInTurn ops (applied op now goal) goal

-- what the kernel asks of an operation
abbrev pub IsAllowed : Op → Tables → Tables → Type 0
IsAllowed (CreateSet name) now goal = maps.contains_key now.sets name ≡ false
IsAllowed (AddMember name x) now goal =
    (maps.contains_key now.sets name ≡ true)
    × ((set.contains (members_of (maps.get now.sets name)) x ≡ false) × (is_member_of name x ≡ true))
IsAllowed (WriteChain name) now goal =
    AllLeadThere now.chains (rules_of (maps.get goal.chains name))
    × (AllLeadBelow (rank_of name) (rules_of (maps.get goal.chains name))
    × (AllNameThere now.sets (rules_of (maps.get goal.chains name))
    × (have_shape (rules_of (maps.get goal.chains name)) ≡ true)))
IsAllowed (DeleteChain name) now goal = NoneLeadsTo now.chains name
IsAllowed (RemoveMember name x) now goal =
    (maps.contains_key now.sets name ≡ true) × (set.contains (members_of (maps.get now.sets name)) x ≡ true)
IsAllowed (DestroySet name) now goal = NoneNames now.chains name

-- ---- what tables lack, have otherwise or have beyond the goal

abbrev pub counted : {A : Type 0} → (A → Bool) → List A → ℕ
counted test [] = 0
counted test (x ∷ xs) = (if test x then 1 else 0) + counted test xs

abbrev pub summed : {A : Type 0} → (A → ℕ) → List A → ℕ
summed f [] = 0
summed f (x ∷ xs) = f x + summed f xs

-- a member of the goal's set counts as lacking also while the set does
abbrev pub members_lacking : Sets → Sets → List ℕ → ℕ
members_lacking now goal name =
    counted (λ x. not (set.contains (members_of (maps.get now name)) x)) (set.items (members_of (maps.get goal name)))

abbrev pub surplus_of : Option Members → Members → ℕ
surplus_of None held = 0
surplus_of (Some kept) held = counted (λ x. not (set.contains kept x)) (set.items held)

-- a set that the goal lacks counts as one
abbrev pub members_surplus : Sets → Sets → List ℕ → ℕ
members_surplus now goal name = surplus_of (maps.get goal name) (members_of (maps.get now name))

abbrev pub differences : Tables → Tables → ℕ
differences now goal =
    counted (λ name. not (maps.contains_key now.sets name)) (maps.keys goal.sets)
    + (summed (members_lacking now.sets goal.sets) (maps.keys goal.sets)
    + (counted (λ name. not (is_alike (maps.get now.chains name) (maps.get goal.chains name))) (maps.keys goal.chains)
    + (counted (λ name. not (maps.contains_key goal.chains name)) (maps.keys now.chains)
    + (summed (members_surplus now.sets goal.sets) (maps.keys now.sets)
    + counted (λ name. not (maps.contains_key goal.sets name)) (maps.keys now.sets)))))

-- each of these operations is allowed at its turn, between tables that the kernel takes
abbrev pub AreAllowedInTurn : List Op → Tables → Tables → Type 0
AreAllowedInTurn [] now goal = AreKept now
AreAllowedInTurn (op ∷ ops) now goal =
    AreKept now × (IsAllowed op now goal × AreAllowedInTurn ops (applied op now goal) goal)
