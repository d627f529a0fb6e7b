-- What holds of each operation, since it is about a set or a chain of one of both tables.
use Rattle.std.proofs.Common.{◌≡◌, ℕ, Bool, true, false, ◌&&◌, not, nat_eq, List, [], ◌∷◌, ◌++◌, Option, Some, None, refl}
use Rattle.std.specs.List.{AllByRecursion, flat_map}
use Rattle.std.specs.Cmp.Lexicographic.{nat_list_cmp_total}
use Rattle.std.specs.FinMap as maps
use Rattle.std.proofs.lemmas.Bool.{and_parts, not-true}
use Rattle.fx_base.specs.Set as set
use Rattle.fx_laws.proofs.Uses.{all-append}
use Rattle.fx_model.specs.declared.member.Member.{Member}
use Rattle.fx_model.specs.Messages.{Members, members_of}
use Rattle.fx_model.specs.Ranks.{rank_of}
use Rattle.fx_model.specs.Tables.{ChainName, Tables}
use Rattle.fx_reconcile.specs.declared.op.Op.{Op}
use Rattle.fx_reconcile.specs.declared.op.Op.TheVariants.{CreateSet, AddMember, WriteChain, DeleteChain, RemoveMember, DestroySet}
use Rattle.fx_reconcile.specs.Alike.{is_alike}
use Rattle.fx_reconcile.specs.Operations.{when, create_at, add_at, write_at, delete_at, members_beyond, remove_at, destroy_at, creates, adds, writes, writes_of, deletes, deletes_of, removes, destroys, operations, ranks_up, ranks_down}
use Rattle.fx_reconcile.proofs.Keys.{keys_there}
use Rattle.fx_found_laws.specs.OwnNames.{AreOwn, names_own_set_or_chain, AllNameOwn}

-- it holds of what is done at a set or a chain that is there, and of a deletion where the goal lacks the chain
pub record HoldsThere (n g : Tables) (P : Op → Type 0) : Type 0 where
  pub create : (q : List ℕ) → maps.contains_key g.sets q ≡ true → P (CreateSet q)
  pub add : (q : List ℕ) (x : Member) → maps.contains_key g.sets q ≡ true → P (AddMember q x)
  pub write : (q : ChainName) → maps.contains_key g.chains q ≡ true → P (WriteChain q)
  pub delete : (q : ChainName) → maps.contains_key n.chains q ≡ true → maps.contains_key g.chains q ≡ false → P (DeleteChain q)
  pub remove : (q : List ℕ) (x : Member) → maps.contains_key n.sets q ≡ true → P (RemoveMember q x)
  pub destroy : (q : List ℕ) → maps.contains_key n.sets q ≡ true → P (DestroySet q)

module _ (P : Op → Type 0) where
  abbrev AllHold : List Op → Type 0
  AllHold ops = AllByRecursion P ops

  when_holds : (b : Bool) (op : Op) → (b ≡ true → P op) → AllHold (when b op)
  when_holds true op h = (h refl, tt)
  when_holds false op h = tt

  module _ {K : Type 0} (f : K → List Op) where
    all_hold : (Q : K → Type 0) → ((k : K) → Q k → AllHold (f k)) → (ks : List K) → AllByRecursion Q ks → AllHold (flat_map f ks)
    all_hold Q h [] all = tt
    all_hold Q h (k ∷ ks) all = all-append P (f k) (flat_map f ks) (h k all.0) (all_hold Q h ks all.1)

    each_holds : ((k : K) → AllHold (f k)) → (ks : List K) → AllHold (flat_map f ks)
    each_holds h [] = tt
    each_holds h (k ∷ ks) = all-append P (f k) (flat_map f ks) (h k) (each_holds h ks)

  beyond_holds : (o : Option Members) (held : Members) (q : List ℕ) → ((x : Member) → P (RemoveMember q x)) → AllHold (members_beyond o held q)
  beyond_holds None held q h = tt
  beyond_holds (Some kept) held q h =
      each_holds (λ (x : Member). when (not (set.contains kept x)) (RemoveMember q x)) (λ x. when_holds (not (set.contains kept x)) (RemoveMember q x) (λ _. h x)) (set.items held)

  module _ (n g : Tables) (holds : HoldsThere n g P) where
    creates_hold : AllHold (creates n.sets g.sets)
    creates_hold =
        all_hold (create_at n.sets) (λ q. maps.contains_key g.sets q ≡ true)
        (λ q there. when_holds (not (maps.contains_key n.sets q)) (CreateSet q) (λ _. holds.create q there))
        (maps.keys g.sets) (keys_there nat_list_cmp_total g.sets)

    adds_hold : AllHold (adds n.sets g.sets)
    adds_hold =
        all_hold (add_at n.sets g.sets) (λ q. maps.contains_key g.sets q ≡ true)
        (λ q there. each_holds (λ (x : Member). when (not (set.contains (members_of (maps.get n.sets q)) x)) (AddMember q x))
        (λ x. when_holds (not (set.contains (members_of (maps.get n.sets q)) x)) (AddMember q x) (λ _. holds.add q x there))
        (set.items (members_of (maps.get g.sets q))))
        (maps.keys g.sets) (keys_there nat_list_cmp_total g.sets)

    writes_hold : AllHold (writes n.chains g.chains)
    writes_hold = each_holds (writes_of n.chains g.chains) (λ rank.
        all_hold (write_at n.chains g.chains rank) (λ q. maps.contains_key g.chains q ≡ true)
        (λ q there. when_holds (nat_eq (rank_of q) rank && not (is_alike (maps.get n.chains q) (maps.get g.chains q))) (WriteChain q) (λ _. holds.write q there))
        (maps.keys g.chains) (keys_there nat_list_cmp_total g.chains)) ranks_up

    deletes_hold : AllHold (deletes n.chains g.chains)
    deletes_hold = each_holds (deletes_of n.chains g.chains) (λ rank.
        all_hold (delete_at g.chains rank) (λ q. maps.contains_key n.chains q ≡ true)
        (λ q there. when_holds (nat_eq (rank_of q) rank && not (maps.contains_key g.chains q)) (DeleteChain q)
        (λ due. holds.delete q there (not-true (maps.contains_key g.chains q) (and_parts (nat_eq (rank_of q) rank) (not (maps.contains_key g.chains q)) due).1)))
        (maps.keys n.chains) (keys_there nat_list_cmp_total n.chains)) ranks_down

    removes_hold : AllHold (removes n.sets g.sets)
    removes_hold =
        all_hold (remove_at n.sets g.sets) (λ q. maps.contains_key n.sets q ≡ true)
        (λ q there. beyond_holds (maps.get g.sets q) (members_of (maps.get n.sets q)) q (λ x. holds.remove q x there))
        (maps.keys n.sets) (keys_there nat_list_cmp_total n.sets)

    destroys_hold : AllHold (destroys n.sets g.sets)
    destroys_hold =
        all_hold (destroy_at g.sets) (λ q. maps.contains_key n.sets q ≡ true)
        (λ q there. when_holds (not (maps.contains_key g.sets q)) (DestroySet q) (λ _. holds.destroy q there))
        (maps.keys n.sets) (keys_there nat_list_cmp_total n.sets)

    pub operations_hold : AllHold (operations n g)
    operations_hold =
        let last : List Op = destroys n.sets g.sets in
        let e : List Op = removes n.sets g.sets ++ last in
        let d : List Op = deletes n.chains g.chains ++ e in
        let c : List Op = writes n.chains g.chains ++ d in
        let b : List Op = adds n.sets g.sets ++ c in
        all-append P (creates n.sets g.sets) b creates_hold
        (all-append P (adds n.sets g.sets) c adds_hold
        (all-append P (writes n.chains g.chains) d writes_hold
        (all-append P (deletes n.chains g.chains) e deletes_hold
        (all-append P (removes n.sets g.sets) last removes_hold destroys_hold))))

-- ---- the names of operations

pub operations_own : (n g : Tables) → AreOwn n → AreOwn g → AllNameOwn (operations n g)
operations_own n g now goal = operations_hold (λ op. names_own_set_or_chain op ≡ true) n g (record {
  create = λ q there. goal.sets q there;
  add = λ q x there. goal.sets q there;
  write = λ q there. goal.chains q there;
  delete = λ q there gone. now.chains q there;
  remove = λ q x there. now.sets q there;
  destroy = λ q there. now.sets q there;
})
