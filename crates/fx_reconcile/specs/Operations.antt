-- The operations that lead tables to a goal: sets that are lacking are created and filled, chains are written from the
-- lowest rank up and deleted from the highest rank down, and then sets are emptied and destroyed. By iptables(8) and
-- ipset(8) a rule may lead only to a chain that is there and name only a set that is there, and what a rule refers to
-- can't be taken away.
use Rattle.std.specs.Prelude.{ℕ, Bool, true, false, not, ◌&&◌, nat_eq, List, [], ◌∷◌, ◌++◌, Option, Some, None}
use Rattle.std.specs.List.{flat_map}
use Rattle.std.specs.FinMap as map
use Rattle.fx_base.specs.Set as set
use Rattle.fx_model.specs.declared.chain.ChainRule.{ChainRule}
use Rattle.fx_model.specs.Messages.{Members, members_of}
use Rattle.fx_model.specs.Tables.{ChainName, Chains, Sets, Tables}
use Rattle.fx_model.specs.Ranks.{rank_of}
use Rattle.fx_reconcile.specs.declared.op.Op.{Op}
use Rattle.fx_reconcile.specs.declared.op.Op.TheVariants.{CreateSet, AddMember, WriteChain, DeleteChain, RemoveMember, DestroySet}
use Rattle.fx_reconcile.specs.Alike.{is_alike}

abbrev pub when : {A : Type 0} → Bool → A → List A
when true x = x ∷ []
when false x = []

-- ---- what is done at a name

abbrev pub create_at : Sets → List ℕ → List Op
create_at now name = when (not (map.contains_key now name)) (CreateSet name)

-- the set's members that are lacking
abbrev pub add_at : Sets → Sets → List ℕ → List Op
add_at now goal name =
    flat_map (λ x. when (not (set.contains (members_of (map.get now name)) x)) (AddMember name x))
    (set.items (members_of (map.get goal name)))

abbrev pub write_at : Chains → Chains → ℕ → ChainName → List Op
write_at now goal rank name =
    when (nat_eq (rank_of name) rank && not (is_alike (map.get now name) (map.get goal name))) (WriteChain name)

abbrev pub delete_at : Chains → ℕ → ChainName → List Op
delete_at goal rank name = when (nat_eq (rank_of name) rank && not (map.contains_key goal name)) (DeleteChain name)

abbrev pub members_beyond : Option Members → Members → List ℕ → List Op
members_beyond None held name = []
members_beyond (Some kept) held name =
    flat_map (λ x. when (not (set.contains kept x)) (RemoveMember name x)) (set.items held)

-- the set's members that it has beyond those of the goal's set, if that is there
abbrev pub remove_at : Sets → Sets → List ℕ → List Op
remove_at now goal name = members_beyond (map.get goal name) (members_of (map.get now name)) name

abbrev pub destroy_at : Sets → List ℕ → List Op
destroy_at goal name = when (not (map.contains_key goal name)) (DestroySet name)

-- ---- all operations

abbrev pub ranks_up : List ℕ
ranks_up = 0 ∷ 1 ∷ 2 ∷ 3 ∷ 4 ∷ []

abbrev pub ranks_down : List ℕ
ranks_down = 4 ∷ 3 ∷ 2 ∷ 1 ∷ 0 ∷ []

abbrev pub creates : Sets → Sets → List Op
creates now goal = flat_map (create_at now) (map.keys goal)

abbrev pub adds : Sets → Sets → List Op
adds now goal = flat_map (add_at now goal) (map.keys goal)

abbrev pub writes_of : Chains → Chains → ℕ → List Op
writes_of now goal rank = flat_map (write_at now goal rank) (map.keys goal)

abbrev pub writes : Chains → Chains → List Op
writes now goal = flat_map (writes_of now goal) ranks_up

abbrev pub deletes_of : Chains → Chains → ℕ → List Op
deletes_of now goal rank = flat_map (delete_at goal rank) (map.keys now)

abbrev pub deletes : Chains → Chains → List Op
deletes now goal = flat_map (deletes_of now goal) ranks_down

abbrev pub removes : Sets → Sets → List Op
removes now goal = flat_map (remove_at now goal) (map.keys now)

abbrev pub destroys : Sets → Sets → List Op
destroys now goal = flat_map (destroy_at goal) (map.keys now)

-- from the tables to the goal, in order
abbrev pub operations : Tables → Tables → List Op
operations now goal =
    creates now.sets goal.sets
    ++ (adds now.sets goal.sets
    ++ (writes now.chains goal.chains
    ++ (deletes now.chains goal.chains
    ++ (removes now.sets goal.sets
    ++ destroys now.sets goal.sets))))

abbrev pub first_of : {A : Type 0} → List A → Option A
first_of [] = None
first_of (x ∷ xs) = Some x

abbrev pub next_operation : Tables → Tables → Option Op
next_operation now goal = first_of (operations now goal)

-- ---- the tables after an operation

abbrev pub rules_of : Option (List ChainRule) → List ChainRule
rules_of None = []
rules_of (Some rules) = rules

abbrev pub applied : Op → Tables → Tables → Tables
applied (CreateSet name) now goal = record now { sets = map.insert now.sets name set.empty }
applied (AddMember name x) now goal =
    record now { sets = map.insert now.sets name (set.insert (members_of (map.get now.sets name)) x) }
applied (WriteChain name) now goal =
    record now { chains = map.insert now.chains name (rules_of (map.get goal.chains name)) }
applied (DeleteChain name) now goal = record now { chains = map.remove now.chains name }
applied (RemoveMember name x) now goal =
    record now { sets = map.insert now.sets name (set.remove (members_of (map.get now.sets name)) x) }
applied (DestroySet name) now goal = record now { sets = map.remove now.sets name }
