-- What the entries of a `BTreeMap` and the keys of a `BTreeSet` make, as a finite map and a finite set.
use Rattle.std.proofs.Common.{◌≡◌, ◌↔◌, ℕ, Bool, true, false, cond, ◌||◌, IsTrue, subst, List, [], ◌∷◌, length, Option, Some, None, is_some, IsSome, Ordering, refl, sym, ap, ◌∙◌, arith}
use Rattle.std.specs.declared.cmp.Ordering.TheVariants.{Less, Equal, Greater}
use Rattle.std.specs.Ordering.{eq_by_cmp, match_ordering}
use Rattle.std.specs.Cmp.{IsTotalOrder, eq_by_cmp_equiv}
use Rattle.std.specs.List.{AllByRecursion, AllZip, list_any}
use Rattle.std.specs.List.Sorted.{IsStrictlySortedBy}
use Rattle.std.specs.Map.{lookup, keys_of}
use Rattle.std.specs.BTreeMap.{is_at, insert_entry}
use Rattle.std.specs.FinMap.{FinMap, IsAntisymmetric, find, put, entries, empty, get, contains_key, insert, remove, from_entries, get-from_entries, get-insert, get-remove, same_map, entries-insert, same_entries_map, len, len-entries, len-empty}
use Rattle.std.specs.FinMap.Entries.{by_order}
use Rattle.fx_base.specs.Set.{Set, marked, from_list, contains, items}
use Rattle.fx_base.specs.Set as set
use Rattle.std.proofs.lemmas.List.{length-map}
use Rattle.std.proofs.lemmas.Map.Entries.{entries_from_clone}
use Rattle.std.proofs.lemmas.Map.Keys.{sorted_head, sorted_tail}

no_length : {A : Type 0} (es : List A) → length es ≡ 0 → es ≡ []
no_length [] e = refl
no_length (x ∷ es) e = absurd (omega arith)

none_there : {X : Type 0} (o : Option X) → None ≡ o → IsSome o → ⊥
none_there None e h = cc
none_there (Some x) e h = cc

pub some_there : {X : Type 0} (o : Option X) (x : X) → Some x ≡ o → IsSome o
some_there o x e = subst IsSome e refl

module _ {K X : Type 0} (R : K → K → Ordering) where
  find-lookup : (es : List (K × X)) (q : K) → find R q es ≡ lookup (is_at (R q)) es
  find-lookup [] q = refl
  find-lookup (e ∷ es) q = ap (cond (eq_by_cmp R q e.0) (Some e.1)) (find-lookup es q)

  pub entries-empty : entries (empty {X = X} {R = R}) ≡ []
  entries-empty = no_length _ (sym (len-entries empty) ∙ len-empty R X)

  put-below : (k : K) (v : X) (es : List (K × X)) → AllByRecursion (λ y. R k y ≡ Less) (keys_of es) → put R k v es ≡ (k, v) ∷ es
  put-below k v [] h = refl
  put-below k v (e ∷ es) h = ap (λ r. by_order r ((k, v) ∷ e ∷ es) ((e.0, v) ∷ es) (e ∷ put R k v es)) h.0

module _ {K X : Type 0} {R : K → K → Ordering} (o : IsTotalOrder R) where
  -- what the map has at a key
  pub get-view : (es : List (K × X)) (q : K) → get (from_entries {R = R} es) q ≡ lookup (is_at (R q)) es
  get-view es q = get-from_entries o es q ∙ find-lookup R es q

  -- the entries of a map whose keys ascend, in their order
  pub entries-view : (es : List (K × X)) → IsStrictlySortedBy R (keys_of es) → entries (from_entries {R = R} es) ≡ es
  entries-view [] h = entries-empty R
  entries-view (e ∷ es) h =
      entries-insert o (from_entries es) e.0 e.1
      ∙ ap (put R e.0 e.1) (entries-view es (sorted_tail R e.0 (keys_of es) h))
      ∙ put-below R e.0 e.1 es (sorted_head R e.0 (keys_of es) h)

  -- ---- what a method's answer cites: es are the entries at the call, m the map they make, fs the entries at the return
  pub got : (es : List (K × X)) (m : FinMap R X) → from_entries es ≡ m → (k : K) (r : Option X) → r ≡ lookup (is_at (R k)) es → r ≡ get m k
  got es m is k r e = e ∙ sym (get-view es k) ∙ ap (λ n. get n k) is

  pub has : (es : List (K × X)) (m : FinMap R X) → from_entries es ≡ m → (k : K) (r : Bool) → r ≡ is_some (lookup (is_at (R k)) es) → r ≡ contains_key m k
  has es m is k r e = e ∙ ap is_some (got es m is k _ refl)

  -- a key that is there is found
  pub missing : (es : List (K × X)) (m : FinMap R X) → from_entries es ≡ m → (k : K) → IsSome (get m k) → None ≡ lookup (is_at (R k)) es → ⊥
  missing es m is k there e = let none : None ≡ get m k = got es m is k None e in none_there _ none there

  pub walked : (es : List (K × X)) (m : FinMap R X) → from_entries es ≡ m → IsStrictlySortedBy R (keys_of es) → es ≡ entries m
  walked es m is h = sym (entries-view es h) ∙ ap entries is

  pub cloned : (C : K → K → Type 0) (D : X → X → Type 0) → ((x y : K) → C x y → y ≡ x) → ((v w : X) → D v w → w ≡ v) → (es fs : List (K × X)) (m : FinMap R X) → from_entries es ≡ m → AllZip (λ p q. C p.0 q.0 × D p.1 q.1) es fs → from_entries fs ≡ m
  cloned C D keys values es fs m is h = ap from_entries (entries_from_clone C D keys values es fs h) ∙ is

  pub counted : (es : List (K × X)) (m : FinMap R X) → from_entries es ≡ m → IsStrictlySortedBy R (keys_of es) → (n : ℕ) → n ≡ length es → n ≡ len m
  counted es m is h n e = e ∙ ap length (walked es m is h) ∙ sym (len-entries m)

  pub emptied : (es : List (K × X)) (m : FinMap R X) → from_entries es ≡ m → IsStrictlySortedBy R (keys_of es) → (b : Bool) → (IsTrue b ↔ (length es ≡ 0)) → IsTrue b ↔ (entries m ≡ [])
  emptied es m is h b e = (λ t. sym (walked es m is h) ∙ no_length es (e.0 t), λ none. e.1 (ap length (walked es m is h ∙ none)))

  -- an entry at its place among keys in order
  insert-put : (es : List (K × X)) (k : K) (v : X) → insert_entry R es k v ≡ put R k v es
  insert-put [] k v = refl
  insert-put (e ∷ es) k v =
      elim (R k e.0) as (λ r. match_ordering r ((k, v) ∷ e ∷ es) ((e.0, v) ∷ es) (e ∷ insert_entry R es k v) ≡ by_order r ((k, v) ∷ e ∷ es) ((e.0, v) ∷ es) (e ∷ put R k v es)) [
        | Less ↦ refl
        | Equal ↦ refl
        | Greater ↦ ap (λ xs. e ∷ xs) (insert-put es k v)
      ]

  pub placed : (es fs : List (K × X)) (m : FinMap R X) → from_entries es ≡ m → IsStrictlySortedBy R (keys_of es) → IsStrictlySortedBy R (keys_of fs) → (k : K) (v : X) → fs ≡ insert_entry R es k v → from_entries fs ≡ insert m k v
  placed es fs m is h g k v e = same_entries_map _ _ (
      entries-view fs g ∙ e ∙ insert-put es k v ∙ ap (put R k v) (walked es m is h) ∙ sym (entries-insert o m k v))

  module _ (exact : IsAntisymmetric R) where
    pub inserted : (es fs : List (K × X)) (m : FinMap R X) → from_entries es ≡ m → (k : K) (v : X) → ((q : K) → lookup (is_at (R q)) fs ≡ cond (is_at (R k) q) (Some v) (lookup (is_at (R q)) es)) → from_entries fs ≡ insert m k v
    inserted es fs m is k v h = same_map o exact _ _ (λ q.
        get-view fs q ∙ h q ∙ ap (λ b. cond b (Some v) (lookup (is_at (R q)) es)) ((eq_by_cmp_equiv o).symm k q)
        ∙ sym (get-insert o m k v q ∙ ap (cond (eq_by_cmp R q k) (Some v)) (sym (got es m is q _ refl))))

    pub removed : (es fs : List (K × X)) (m : FinMap R X) → from_entries es ≡ m → (k : K) → ((q : K) → lookup (is_at (R q)) fs ≡ cond (is_at (R k) q) None (lookup (is_at (R q)) es)) → from_entries fs ≡ remove m k
    removed es fs m is k h = same_map o exact _ _ (λ q.
        get-view fs q ∙ h q ∙ ap (λ b. cond b None (lookup (is_at (R q)) es)) ((eq_by_cmp_equiv o).symm k q)
        ∙ sym (get-remove o m k q ∙ ap (cond (eq_by_cmp R q k) None) (sym (got es m is q _ refl))))

    -- maps whose keys ascend are equal exactly where their entries are
    pub same_view : (es fs : List (K × X)) → IsStrictlySortedBy R (keys_of es) → IsStrictlySortedBy R (keys_of fs) → from_entries {R = R} es ≡ from_entries fs → es ≡ fs
    same_view es fs g h e = sym (entries-view es g) ∙ ap entries e ∙ entries-view fs h

-- what a set's map has at a key
abbrev mark : Bool → Option (Unit {0})
mark true = Some tt
mark false = None

module _ {K : Type 0} where
  marked-lookup : (test : K → Bool) (ks : List K) → lookup test (marked ks) ≡ mark (list_any test ks)
  marked-lookup test [] = refl
  marked-lookup test (k ∷ ks) = elim (test k) as (λ b. cond b (Some tt) (lookup test (marked ks)) ≡ mark (b || list_any test ks)) [ true ↦ refl | false ↦ marked-lookup test ks ]

  keys-marked : (ks : List K) → keys_of (marked ks) ≡ ks
  keys-marked [] = refl
  keys-marked (k ∷ ks) = ap (λ xs. k ∷ xs) (keys-marked ks)

there : (b : Bool) → b ≡ is_some (mark b)
there true = refl
there false = refl

turns : (a b c : Bool) → mark (cond a b c) ≡ cond a (mark b) (mark c)
turns true b c = refl
turns false b c = refl

module _ {K : Type 0} {R : K → K → Ordering} (o : IsTotalOrder R) where
  pub holds : (ks : List K) (s : Set R) → from_list ks ≡ s → (k : K) (r : Bool) → r ≡ list_any (is_at (R k)) ks → r ≡ contains s k
  holds ks s is k r e = has o (marked ks) s is k r (e ∙ there _ ∙ ap is_some (sym (marked-lookup (is_at (R k)) ks)))

  pub listed : (ks : List K) (s : Set R) → from_list ks ≡ s → IsStrictlySortedBy R ks → ks ≡ items s
  listed ks s is h = sym (keys-marked ks) ∙ ap keys_of (walked o (marked ks) s is (subst (IsStrictlySortedBy R) (sym (keys-marked ks)) h))

  pub numbered : (ks : List K) (s : Set R) → from_list ks ≡ s → IsStrictlySortedBy R ks → (n : ℕ) → n ≡ length ks → n ≡ set.len s
  numbered ks s is h n e = counted o (marked ks) s is (subst (IsStrictlySortedBy R) (sym (keys-marked ks)) h) n (e ∙ ap length (sym (keys-marked ks)) ∙ length-map (marked ks) (λ e. e.0))

  module _ (exact : IsAntisymmetric R) where
    pub put_in : (ks js : List K) (s : Set R) → from_list ks ≡ s → (k : K) → ((q : K) → list_any (is_at (R q)) js ≡ cond (is_at (R k) q) true (list_any (is_at (R q)) ks)) → from_list js ≡ set.insert s k
    put_in ks js s is k h = inserted o exact (marked ks) (marked js) s is k tt (λ q.
        marked-lookup _ js ∙ ap mark (h q) ∙ turns (is_at (R k) q) true _ ∙ ap (cond (is_at (R k) q) (Some tt)) (sym (marked-lookup _ ks)))

    pub taken_out : (ks js : List K) (s : Set R) → from_list ks ≡ s → (k : K) → ((q : K) → list_any (is_at (R q)) js ≡ cond (is_at (R k) q) false (list_any (is_at (R q)) ks)) → from_list js ≡ set.remove s k
    taken_out ks js s is k h = removed o exact (marked ks) (marked js) s is k (λ q.
        marked-lookup _ js ∙ ap mark (h q) ∙ turns (is_at (R k) q) false _ ∙ ap (cond (is_at (R k) q) None) (sym (marked-lookup _ ks)))
