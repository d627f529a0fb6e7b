-- There are no operations exactly where tables are alike, and the operations, applied in order, lead there.
use Rattle.std.proofs.Common.{◌≡◌, ℕ, Bool, true, false, not, ◌&&◌, ◌||◌, nat_eq, cond, List, [], ◌∷◌, ◌++◌, map, Option, Some, None, is_some, option_map, refl, sym, ap, ◌∙◌, subst}
use Rattle.std.specs.List.{AllByRecursion, flat_map}
use Rattle.std.specs.FinMap as maps
use Rattle.std.specs.Str.{bytes_eq}
use Rattle.std.specs.Cmp.Lexicographic.{nat_list_cmp_total}
use Rattle.std.proofs.lemmas.Bool.{eq-eqb}
use Rattle.fx_base.specs.Set as set
use Rattle.fx_base.proofs.Found.{each}
use Rattle.fx_base.proofs.KeyCases.{bytes_exact}
use Rattle.fx_base.proofs.AtKey.{same_by_get}
use Rattle.fx_base.proofs.AnyIn.{same_truth}
use Rattle.fx_model.specs.declared.member.Member.{Member}
use Rattle.fx_model.specs.declared.chain.ChainRule.{ChainRule}
use Rattle.fx_model.specs.contracts.member.MemberOrd.TheImpl.Laws as member_laws
use Rattle.fx_model.proofs.Orders.{exact_member}
use Rattle.fx_model.specs.Messages.{Members, members_of}
use Rattle.fx_model.specs.Tables.{ChainName, Sets, Chains, Tables, forward}
use Rattle.fx_model.specs.Ranks.{rank_of, is_host_hook, is_root, is_host_root, is_child, is_of_endpoint, is_of_host_endpoint}
use Rattle.fx_reconcile.specs.declared.op.Op.{Op}
use Rattle.fx_reconcile.specs.declared.op.Op.TheVariants.{CreateSet, AddMember, WriteChain, DeleteChain, RemoveMember, DestroySet}
use Rattle.fx_reconcile.specs.Alike.{is_alike, are_alike, held_of}
use Rattle.fx_reconcile.specs.Operations.{when, create_at, add_at, write_at, delete_at, members_beyond, remove_at, destroy_at, creates, adds, writes, writes_of, deletes, deletes_of, removes, destroys, operations, applied, first_of, ranks_up, ranks_down}
use Rattle.fx_reconcile.specs.Goal.{AreAlike, after_all, AreNextInTurn}
use Rattle.fx_reconcile.proofs.Lists.{when_not, both_empty, all_empty, none_flat, anything}
use Rattle.fx_reconcile.proofs.Keys.{at_key}
use Rattle.fx_reconcile.proofs.AlikeLemmas.{same_held, held_alike}
use Rattle.fx_reconcile.proofs.SetSteps.{not_untrue, names_within, items_within, all_created}
use Rattle.fx_reconcile.proofs.ChainSteps.{chains_within}
use Rattle.fx_reconcile.proofs.Law.{first_leaves_others}

-- what holds of each rank holds of a chain's
pub at_rank : (P : ℕ → Type 0) → AllByRecursion P ranks_up → (name : ChainName) → P (rank_of name)
at_rank P h name =
    by_test (bytes_eq name forward || is_host_hook name) 4 _ h.1.1.1.1.0
    (by_test (is_root name || is_host_root name) 3 _ h.1.1.1.0
    (by_test (is_child name) 2 _ h.1.1.0 (by_test (is_of_endpoint name || is_of_host_endpoint name) 1 0 h.1.0 h.0)))
  where
    by_test : (b : Bool) (x y : ℕ) → P x → P y → P (cond b x y)
    by_test true x y p q = p
    by_test false x y p q = q

pub upwards : (P : ℕ → Type 0) → AllByRecursion P ranks_down → AllByRecursion P ranks_up
upwards P h = (h.1.1.1.1.0, (h.1.1.1.0, (h.1.1.0, (h.1.0, (h.0, tt)))))

untold : (a b : Bool) → a ≡ true → (a && b) ≡ false → b ≡ false
untold true b p e = e
untold false b p e = cc

module _ (n g : Chains) where
  -- where no chain of a rank is written, each of the goal's is there and alike
  pub rank_alike : (name : ChainName) → writes_of n g (rank_of name) ≡ [] → maps.contains_key g name ≡ true → is_alike (maps.get n name) (maps.get g name) ≡ true
  rank_alike name e there =
      let none = at_key nat_list_cmp_total bytes_exact (λ q. write_at n g (rank_of name) q ≡ []) g (all_empty (write_at n g (rank_of name)) (maps.keys g) e) name there in
      not_untrue _ (untold _ _ (eq-eqb (rank_of name) (rank_of name) refl) (when_not _ _ none))

  pub rank_kept : (name : ChainName) → deletes_of n g (rank_of name) ≡ [] → maps.contains_key n name ≡ true → maps.contains_key g name ≡ true
  rank_kept name e there =
      let none = at_key nat_list_cmp_total bytes_exact (λ q. delete_at g (rank_of name) q ≡ []) n (all_empty (delete_at g (rank_of name)) (maps.keys n) e) name there in
      not_untrue _ (untold _ _ (eq-eqb (rank_of name) (rank_of name) refl) (when_not _ _ none))

  pub all_alike : writes n g ≡ [] → (name : ChainName) → maps.contains_key g name ≡ true → is_alike (maps.get n name) (maps.get g name) ≡ true
  all_alike e name = rank_alike name (at_rank (λ rank. writes_of n g rank ≡ []) (all_empty (writes_of n g) ranks_up e) name)

  pub all_kept : deletes n g ≡ [] → (name : ChainName) → maps.contains_key n name ≡ true → maps.contains_key g name ≡ true
  all_kept e name = rank_kept name (at_rank (λ rank. deletes_of n g rank ≡ []) (upwards (λ rank. deletes_of n g rank ≡ []) (all_empty (deletes_of n g) ranks_down e)) name)

  same_chains : writes n g ≡ [] → deletes n g ≡ [] → (name : ChainName) → option_map (map held_of) (maps.get n name) ≡ option_map (map held_of) (maps.get g name)
  same_chains e d name = by_values (maps.get n name) (maps.get g name) refl refl
    where
      by_values : (o p : Option (List ChainRule)) → maps.get n name ≡ o → maps.get g name ≡ p → option_map (map held_of) o ≡ option_map (map held_of) p
      by_values None None a b = refl
      by_values None (Some ss) a b = let h : is_alike None (Some ss) ≡ true = subst (λ o. is_alike o (Some ss) ≡ true) a (subst (λ p. is_alike (maps.get n name) p ≡ true) b (all_alike e name (ap is_some b))) in cc
      by_values (Some rs) None a b = let h : false ≡ true = sym (ap is_some b) ∙ all_kept d name (ap is_some a) in cc
      by_values (Some rs) (Some ss) a b =
          let h : are_alike rs ss ≡ true = subst (λ o. is_alike o (Some ss) ≡ true) a (subst (λ p. is_alike (maps.get n name) p ≡ true) b (all_alike e name (ap is_some b))) in
          ap Some (same_held rs ss h)

same_unit : (o p : Option (Unit {0})) → is_some o ≡ is_some p → o ≡ p
same_unit None None e = refl
same_unit None (Some x) e = cc
same_unit (Some x) None e = cc
same_unit (Some x) (Some y) e = refl

module _ (n g : Sets) (c : creates n g ≡ []) (a : adds n g ≡ []) (r : removes n g ≡ []) (d : destroys n g ≡ []) where
  same_members : (name : List ℕ) (s t : Members) → maps.get n name ≡ Some s → maps.get g name ≡ Some t → s ≡ t
  same_members name s t p q = maps.same_map member_laws.total-law exact_member s t (λ x. same_unit _ _ (same_truth _ _ (within x) (wanted x)))
    where
      wanted : (x : Member) → set.contains t x ≡ true → set.contains s x ≡ true
      wanted x h =
          let none : add_at n g name ≡ [] = at_key nat_list_cmp_total bytes_exact (λ k. add_at n g k ≡ []) g (all_empty (add_at n g) (maps.keys g) a) name (ap is_some q) in
          let here : flat_map (λ y. when (not (set.contains s y)) (AddMember name y)) (set.items t) ≡ [] =
          subst (λ o. flat_map (λ y. when (not (set.contains s y)) (AddMember name y)) (set.items (members_of o)) ≡ []) q
          (subst (λ o. flat_map (λ y. when (not (set.contains (members_of o) y)) (AddMember name y)) (set.items (members_of (maps.get g name))) ≡ []) p none) in
          not_untrue _ (when_not _ _ (at_key member_laws.total-law exact_member (λ y. when (not (set.contains s y)) (AddMember name y) ≡ []) t (all_empty _ (set.items t) here) x h))

      within : (x : Member) → set.contains s x ≡ true → set.contains t x ≡ true
      within x h =
          let none : remove_at n g name ≡ [] = at_key nat_list_cmp_total bytes_exact (λ k. remove_at n g k ≡ []) n (all_empty (remove_at n g) (maps.keys n) r) name (ap is_some p) in
          let here : flat_map (λ y. when (not (set.contains t y)) (RemoveMember name y)) (set.items s) ≡ [] =
          subst (λ o. members_beyond o s name ≡ []) q (subst (λ o. members_beyond (maps.get g name) (members_of o) name ≡ []) p none) in
          not_untrue _ (when_not _ _ (at_key member_laws.total-law exact_member (λ y. when (not (set.contains t y)) (RemoveMember name y) ≡ []) s (all_empty _ (set.items s) here) x h))

  same_sets : n ≡ g
  same_sets = same_by_get n g (λ name. by_values name (maps.get n name) (maps.get g name) refl refl)
    where
      by_values : (name : List ℕ) (o p : Option Members) → maps.get n name ≡ o → maps.get g name ≡ p → maps.get n name ≡ maps.get g name
      by_values name None None x y = x ∙ sym y
      by_values name None (Some t) x y = let h : false ≡ true = sym (ap is_some x) ∙ at_key nat_list_cmp_total bytes_exact (λ k. maps.contains_key n k ≡ true) g (all_created n g c) name (ap is_some y) in cc
      by_values name (Some s) None x y =
          let none : destroy_at g name ≡ [] = at_key nat_list_cmp_total bytes_exact (λ k. destroy_at g k ≡ []) n (all_empty (destroy_at g) (maps.keys n) d) name (ap is_some x) in
          let h : false ≡ true = sym (ap is_some y) ∙ not_untrue _ (when_not _ _ none) in
          cc
      by_values name (Some s) (Some t) x y = x ∙ ap Some (same_members name s t x y) ∙ sym y

module _ (n g : Tables) where
  pub end_is_alike : operations n g ≡ [] → AreAlike n g
  end_is_alike e =
      let a = both_empty (creates n.sets g.sets) _ e in
      let b = both_empty (adds n.sets g.sets) _ a.1 in
      let c = both_empty (writes n.chains g.chains) _ b.1 in
      let d = both_empty (deletes n.chains g.chains) _ c.1 in
      let f = both_empty (removes n.sets g.sets) _ d.1 in
      record { sets = same_sets n.sets g.sets a.0 b.0 f.0 f.1; chains = same_chains n.chains g.chains c.0 d.0 }

-- ---- no operations between tables that are alike
module _ (g : Sets) where
  none_created : creates g g ≡ []
  none_created = none_flat (create_at g) (maps.keys g) (each (λ q. maps.contains_key g q ≡ true) (λ q. create_at g q ≡ []) (λ q h. ap (λ b. when (not b) (CreateSet q)) h) (maps.keys g) (names_within g))

  none_destroyed : destroys g g ≡ []
  none_destroyed = none_flat (destroy_at g) (maps.keys g) (each (λ q. maps.contains_key g q ≡ true) (λ q. destroy_at g q ≡ []) (λ q h. ap (λ b. when (not b) (DestroySet q)) h) (maps.keys g) (names_within g))

  none_added : adds g g ≡ []
  none_added = none_flat (add_at g g) (maps.keys g) (each (λ _. Unit {0}) (λ q. add_at g g q ≡ []) (λ q _. at q) (maps.keys g) (anything (maps.keys g)))
    where
      at : (q : List ℕ) → add_at g g q ≡ []
      at q =
          let s : Members = members_of (maps.get g q) in
          none_flat _ (set.items s) (each (λ x. set.contains s x ≡ true) (λ x. when (not (set.contains s x)) (AddMember q x) ≡ []) (λ x h. ap (λ b. when (not b) (AddMember q x)) h) (set.items s) (items_within s))

  none_removed : removes g g ≡ []
  none_removed = none_flat (remove_at g g) (maps.keys g) (each (λ _. Unit {0}) (λ q. remove_at g g q ≡ []) (λ q _. at q (maps.get g q)) (maps.keys g) (anything (maps.keys g)))
    where
      at : (q : List ℕ) (o : Option Members) → members_beyond o (members_of o) q ≡ []
      at q None = refl
      at q (Some s) = none_flat _ (set.items s) (each (λ x. set.contains s x ≡ true) (λ x. when (not (set.contains s x)) (RemoveMember q x) ≡ []) (λ x h. ap (λ b. when (not b) (RemoveMember q x)) h) (set.items s) (items_within s))

last_false : (b : Bool) → (b && false) ≡ false
last_false true = refl
last_false false = refl

module _ (n g : Chains) (same : (name : ChainName) → option_map (map held_of) (maps.get n name) ≡ option_map (map held_of) (maps.get g name)) where
  alike_by : (o p : Option (List ChainRule)) → option_map (map held_of) o ≡ option_map (map held_of) p → is_some p ≡ true → is_alike o p ≡ true
  alike_by o None e h = cc
  alike_by None (Some ss) e h = cc
  alike_by (Some rs) (Some ss) e h = held_alike rs ss cc

  there_by : (o p : Option (List ChainRule)) → option_map (map held_of) o ≡ option_map (map held_of) p → is_some o ≡ true → is_some p ≡ true
  there_by None p e h = cc
  there_by (Some rs) None e h = cc
  there_by (Some rs) (Some ss) e h = refl

  none_written : writes n g ≡ []
  none_written = none_flat (writes_of n g) ranks_up (each (λ _. Unit {0}) (λ rank. writes_of n g rank ≡ []) (λ rank _. none_flat (write_at n g rank) (maps.keys g)
      (each (λ q. maps.contains_key g q ≡ true) (λ q. write_at n g rank q ≡ [])
      (λ q h. ap (λ b. when (nat_eq (rank_of q) rank && not b) (WriteChain q)) (alike_by (maps.get n q) (maps.get g q) (same q) h) ∙ ap (λ b. when b (WriteChain q)) (last_false (nat_eq (rank_of q) rank)))
      (maps.keys g) (chains_within g))) ranks_up (anything ranks_up))

  none_deleted : deletes n g ≡ []
  none_deleted = none_flat (deletes_of n g) ranks_down (each (λ _. Unit {0}) (λ rank. deletes_of n g rank ≡ []) (λ rank _. none_flat (delete_at g rank) (maps.keys n)
      (each (λ q. maps.contains_key n q ≡ true) (λ q. delete_at g rank q ≡ [])
      (λ q h. ap (λ b. when (nat_eq (rank_of q) rank && not b) (DeleteChain q)) (there_by (maps.get n q) (maps.get g q) (same q) h) ∙ ap (λ b. when b (DeleteChain q)) (last_false (nat_eq (rank_of q) rank)))
      (maps.keys n) (chains_within n))) ranks_down (anything ranks_down))

module _ (n g : Tables) where
  pub alike_is_end : AreAlike n g → operations n g ≡ []
  alike_is_end h =
      let a : creates n.sets g.sets ≡ [] = subst (λ (s : Sets). creates s g.sets ≡ []) (sym h.sets) (none_created g.sets) in
      let b : adds n.sets g.sets ≡ [] = subst (λ (s : Sets). adds s g.sets ≡ []) (sym h.sets) (none_added g.sets) in
      let c : removes n.sets g.sets ≡ [] = subst (λ (s : Sets). removes s g.sets ≡ []) (sym h.sets) (none_removed g.sets) in
      let d : destroys n.sets g.sets ≡ [] = subst (λ (s : Sets). destroys s g.sets ≡ []) (sym h.sets) (none_destroyed g.sets) in
      let e = none_written n.chains g.chains h.chains in
      let f = none_deleted n.chains g.chains h.chains in
      λ i. a i ++ (b i ++ (e i ++ (f i ++ (c i ++ d i))))

-- ---- in order
module _ (g : Tables) where
  pub ends : (ops : List Op) (n : Tables) → operations n g ≡ ops → operations (after_all ops n g) g ≡ []
  ends [] n e = e
  ends (op ∷ ops) n e = ends ops (applied op n g) (first_leaves_others n g op ops e)

  pub next_in_turn : (ops : List Op) (n : Tables) → operations n g ≡ ops → AreNextInTurn ops n g
  next_in_turn [] n e = ap first_of e
  next_in_turn (op ∷ ops) n e = (ap first_of e, next_in_turn ops (applied op n g) (first_leaves_others n g op ops e))

pub none_first : (ops : List Op) → first_of ops ≡ None → ops ≡ []
none_first [] e = refl
none_first (op ∷ ops) e = cc

pub some_first : (ops : List Op) (op : Op) → first_of ops ≡ Some op → (rest : List Op) × (ops ≡ op ∷ rest)
some_first [] op e = cc
some_first (x ∷ ops) op e = let same : x ≡ op = cc in (ops, λ i. same i ∷ ops)
