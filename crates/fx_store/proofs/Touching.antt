-- Walks over updates: the keys that they touch, each by its first place, and the records that they leave.
use Rattle.std.proofs.Common.{◌≡◌, ℕ, ◌+◌, ◌<◌, Bool, true, false, not, cond, ◌&&◌, List, [], ◌∷◌, ◌++◌, length, get_or, drop, Option, Some, None, is_some, refl, sym, ap, ◌∙◌, append_assoc}
use Rattle.std.specs.Prelude.{filter, option_map}
use Rattle.std.proofs.lemmas.List.{append-nil, drop_more}
use Rattle.std.specs.List.{flat_map}
use Rattle.std.specs.Ordering.{eq_by_cmp}
use Rattle.std.specs.Cmp.{eq_by_cmp_equiv}
use Rattle.std.specs.FinMap as map
use Rattle.fx_base.specs.Set as set
use Rattle.fx_base.proofs.SetAt.{contains_insert}
use Rattle.fx_model.specs.contracts.ids.KeyOrd.TheImpl as key_cmp
use Rattle.fx_model.specs.contracts.ids.KeyOrd.TheImpl.Laws as key_laws
use Rattle.fx_model.specs.declared.ids.Key.{Key}
use Rattle.fx_model.specs.declared.resources.Item.{Item}
use Rattle.fx_model.specs.declared.resources.Resources.{Resources}
use Rattle.fx_model.specs.declared.resources.Update.{Update}
use Rattle.fx_model.specs.declared.resources.Update.TheVariants as update
use Rattle.fx_model.specs.Batches.{each_once, touched_keys}
use Rattle.fx_model.specs.Claims.{touched_by}
use Rattle.fx_model.specs.Steps.{is_key, record_in, last_record, put_of, deletes_of, puts_of, steps_of}
use Rattle.fx_model.proofs.Orders.{key_total}
use Rattle.fx_store.specs.declared.store.Found.{Found}
use Rattle.fx_store.specs.Items.{item_found}
use Rattle.fx_store.specs.Touched.{Keys, Records, is_new, with_keys, recorded, recorded_all}

-- what is left of a walk begins with the next one
pub next_left : {A : Type 0} (xs : List A) (i : ℕ) (x : A) → i < length xs → x ≡ get_or xs i x → drop i xs ≡ x ∷ drop (i + 1) xs
next_left xs i x h e = drop_more xs i x h ∙ ap (λ y. y ∷ drop (i + 1) xs) (sym e)

-- ---- keys that were not seen

-- two tests one after another
both_tests : {A : Type 0} (p q r : A → Bool) → ((x : A) → (q x && p x) ≡ r x) → (xs : List A) → filter p (filter q xs) ≡ filter r xs
both_tests p q r same [] = refl
both_tests p q r same (x ∷ xs) =
    let rest = both_tests p q r same xs in
    (elim (q x) as (λ b. filter p (cond b (x ∷ filter q xs) (filter q xs)) ≡ cond (b && p x) (x ∷ filter r xs) (filter r xs)) [
      | true ↦ ap (λ ys. cond (p x) (x ∷ ys) ys) rest
      | false ↦ rest
    ])
    ∙ ap (λ b. cond b (x ∷ filter r xs) (filter r xs)) (same x)

-- a key is new once another is seen where it is another and was new
new_once : (seen : Keys) (k l : Key) → (not (is_key k l) && is_new seen l) ≡ is_new (set.insert seen k) l
new_once seen k l =
    let test : is_key k l ≡ eq_by_cmp key_cmp.cmp-value.it l k = key_laws.matches_eq-law k l ∙ (eq_by_cmp_equiv key_total).symm k l in
    (elim (is_key k l) as (λ b. (not b && is_new seen l) ≡ not (cond b true (set.contains seen l))) [
      | true ↦ refl
      | false ↦ refl
    ])
    ∙ ap (λ b. not (cond b true (set.contains seen l))) test
    ∙ sym (ap not (contains_insert key_total seen k l))

-- the keys behind a key, each once, which were not seen
key_on : (seen : Keys) (k : Key) (ks : List Key) → filter (is_new seen) (each_once (k ∷ ks)) ≡ filter (is_new seen) (k ∷ []) ++ filter (is_new (set.insert seen k)) (each_once ks)
key_on seen k ks =
    let rest = both_tests (is_new seen) (λ l. not (is_key k l)) (is_new (set.insert seen k)) (new_once seen k) (each_once ks) in
    elim (is_new seen k) as (λ b. cond b (k ∷ filter (is_new seen) (filter (λ l. not (is_key k l)) (each_once ks))) (filter (is_new seen) (filter (λ l. not (is_key k l)) (each_once ks))) ≡ cond b (k ∷ []) [] ++ filter (is_new (set.insert seen k)) (each_once ks)) [
      | true ↦ ap (λ ls. k ∷ ls) rest
      | false ↦ rest
    ]

touched_on : (seen : Keys) (u : Update) (ks : List Key) → filter (is_new seen) (each_once (touched_by u ++ ks)) ≡ filter (is_new seen) (touched_by u) ++ filter (is_new (with_keys seen (touched_by u))) (each_once ks)
touched_on seen update.InSync ks = refl
touched_on seen (update.Put k x) ks = key_on seen k ks
touched_on seen (update.Delete k) ks = key_on seen k ks

-- all is new at first
all_new : (ks : List Key) → filter (is_new set.empty) ks ≡ ks
all_new [] = refl
all_new (k ∷ ks) =
    let new : is_new set.empty k ≡ true = ap (λ o. not (is_some o)) (map.get-empty key_cmp.cmp-value.it k) in
    ap (λ b. cond b (k ∷ filter (is_new set.empty) ks) (filter (is_new set.empty) ks)) new ∙ ap (λ ls. k ∷ ls) (all_new ks)

-- the keys so far, and those that are left and were not seen
abbrev pub AreTouched : List Key → Keys → List Update → List Update → Type 0
AreTouched keys seen left all = keys ++ filter (is_new seen) (each_once (flat_map touched_by left)) ≡ touched_keys all

pub touched-start : (keys : List Key) (seen : Keys) (us : List Update) → keys ≡ [] → seen ≡ set.empty → AreTouched keys seen us us
touched-start keys seen us none empty =
    (λ i. none i ++ filter (is_new (empty i)) (touched_keys us)) ∙ all_new (touched_keys us)

pub touched-next : (keys after : List Key) (seen now : Keys) (u : Update) (left all : List Update) → AreTouched keys seen (u ∷ left) all → now ≡ with_keys seen (touched_by u) → after ≡ keys ++ filter (is_new seen) (touched_by u) → AreTouched after now left all
touched-next keys after seen now u left all was more pushed =
    let ks = flat_map touched_by left in
    (λ i. pushed i ++ filter (is_new (more i)) (each_once ks))
    ∙ append_assoc keys (filter (is_new seen) (touched_by u)) (filter (is_new (with_keys seen (touched_by u))) (each_once ks))
    ∙ ap (λ ls. keys ++ ls) (sym (touched_on seen u ks))
    ∙ was

pub touched-end : (keys : List Key) (seen : Keys) (left all : List Update) → left ≡ [] → AreTouched keys seen left all → keys ≡ touched_keys all
touched-end keys seen left all none was =
    sym (ap (λ us. keys ++ filter (is_new seen) (each_once (flat_map touched_by us))) none ∙ append-nil keys) ∙ was

-- one key, by whether it was seen
pub one_key : (seen : Keys) (k : Key) (b : Bool) → set.contains seen k ≡ b → filter (is_new seen) (k ∷ []) ≡ cond b [] (k ∷ [])
one_key seen k true e = ap (λ c. cond (not c) (k ∷ []) []) e
one_key seen k false e = ap (λ c. cond (not c) (k ∷ []) []) e

pub key_known : (keys : List Key) (seen : Keys) (k : Key) (o : Option (Unit {0})) → o ≡ map.get seen k → is_some o ≡ true → keys ≡ keys ++ filter (is_new seen) (k ∷ [])
key_known keys seen k o at there = sym (append-nil keys) ∙ ap (λ ls. keys ++ ls) (sym (one_key seen k true (ap is_some (sym at) ∙ there)))

pub key_pushed : (keys : List Key) (seen : Keys) (k : Key) (o : Option (Unit {0})) → o ≡ map.get seen k → is_some o ≡ false → keys ++ k ∷ [] ≡ keys ++ filter (is_new seen) (k ∷ [])
key_pushed keys seen k o at none = ap (λ ls. keys ++ ls) (sym (one_key seen k false (ap is_some (sym at) ∙ none)))

-- ---- records

-- the records that updates leave are the last at their keys
pub recorded-last : (m : Records) (us : List Update) (k : Key) → map.get (recorded_all m us) k ≡ record_in k (map.get m k) us
recorded-last m [] k = refl
recorded-last m (update.InSync ∷ us) k = recorded-last m us k
recorded-last m (update.Put l x ∷ us) k =
    recorded-last (map.insert m l x) us k
    ∙ ap (λ o. record_in k o us) (map.get-insert key_total m l x k ∙ ap (λ b. cond b (Some x) (map.get m k)) (sym (key_laws.matches_eq-law k l)))
recorded-last m (update.Delete l ∷ us) k =
    recorded-last (map.remove m l) us k
    ∙ ap (λ o. record_in k o us) (map.get-remove key_total m l k ∙ ap (λ b. cond b None (map.get m k)) (sym (key_laws.matches_eq-law k l)))

pub recorded-record : (m : Records) (us : List Update) → m ≡ recorded_all map.empty us → (k : Key) → map.get m k ≡ last_record us k
recorded-record m us is k =
    ap (λ n. map.get n k) is ∙ recorded-last map.empty us k ∙ ap (λ o. record_in k o us) (map.get-empty key_cmp.cmp-value.it k)

pub recorded-next : (m n : Records) (u : Update) (left all : List Update) → recorded_all m (u ∷ left) ≡ recorded_all map.empty all → n ≡ recorded m u → recorded_all n left ≡ recorded_all map.empty all
recorded-next m n u left all was kept = ap (λ o. recorded_all o left) kept ∙ was

-- ---- steps

-- whether something is found at a key
pub is_found : (o : Option Found) (r : Option Item) → option_map item_found o ≡ r → is_some o ≡ is_some r
is_found None r e = ap is_some e
is_found (Some x) r e = ap is_some e

puts_same : (m : Records) (us : List Update) (ks : List Key) → m ≡ recorded_all map.empty us → flat_map (λ k. put_of k (map.get m k)) ks ≡ puts_of us ks
puts_same m us [] is = refl
puts_same m us (k ∷ ks) is = λ i. put_of k (recorded-record m us is k i) ++ puts_same m us ks is i

pub steps_made : (R : Resources) (us : List Update) (start mid end : List Update) (ks ls : List Key) (m : Records) → start ≡ [] → ks ≡ touched_keys us → ls ≡ touched_keys us → m ≡ recorded_all map.empty us → mid ≡ start ++ deletes_of R ks → end ≡ mid ++ flat_map (λ k. put_of k (map.get m k)) ls → end ≡ steps_of R us
steps_made R us start mid end ks ls m none keys same records deleted put =
    put
    ∙ (λ i. (deleted ∙ (λ j. none j ++ deletes_of R (keys j))) i ++ puts_same m us ls records i)
    ∙ ap (λ qs. deletes_of R (touched_keys us) ++ puts_of us qs) same
