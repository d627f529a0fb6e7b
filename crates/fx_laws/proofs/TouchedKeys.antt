-- The keys that updates touch, each once, and the last record of each.
use Rattle.std.proofs.Common.{◌≡◌, Bool, true, false, not, cond, ◌||◌, List, [], ◌∷◌, ◌++◌, Option, Some, None, is_some, refl, sym, ap, ◌∙◌, subst}
use Rattle.std.specs.Prelude.{filter}
use Rattle.std.specs.List.{list_any, list_all, flat_map}
use Rattle.fx_base.specs.Same.{both_pass}
use Rattle.fx_model.specs.declared.ids.Key.{Key}
use Rattle.fx_model.specs.declared.resources.Item.{Item}
use Rattle.fx_model.specs.declared.resources.Resources.{Resources}
use Rattle.fx_model.specs.declared.resources.Update.{Update}
use Rattle.fx_model.specs.declared.resources.Update.TheVariants as update
use Rattle.fx_model.specs.Claims.{touched_by, without}
use Rattle.fx_model.specs.Resources.{after_delete}
use Rattle.fx_model.specs.Batches.{each_once, touched_keys}
use Rattle.fx_model.specs.Steps.{is_key, record_at, record_after, record_in, last_record, delete_of, put_of, deletes_of, puts_of, steps_of}
use Rattle.fx_laws.proofs.Removing.{both}
use Rattle.fx_laws.proofs.Records.{same_or_other, delete-record}

-- ---- a key among others

abbrev pub among : Key → List Key → Bool
among k ks = list_any (is_key k) ks

-- no key stands twice
abbrev pub IsOnce : List Key → Type 0
IsOnce [] = Unit
IsOnce (k ∷ ks) = (among k ks ≡ false) × IsOnce ks

or_left : (a b : Bool) → (a || b) ≡ false → a ≡ false
or_left true b h = h
or_left false b h = refl

or_right : (a b : Bool) → (a || b) ≡ false → b ≡ false
or_right true b h = cc
or_right false b h = h

-- where the first is the key, and where it isn't
pub here_among : (l k : Key) (ks : List Key) → is_key l k ≡ true → among l (k ∷ ks) ≡ true
here_among l k ks e = ap (λ b. b || among l ks) e

pub later_among : (l k : Key) (ks : List Key) → is_key l k ≡ false → among l (k ∷ ks) ≡ among l ks
later_among l k ks e = ap (λ b. b || among l ks) e

pub not_first : (l k : Key) (ks : List Key) → among l (k ∷ ks) ≡ false → is_key l k ≡ false
not_first l k ks h = or_left (is_key l k) (among l ks) h

pub not_later : (l k : Key) (ks : List Key) → among l (k ∷ ks) ≡ false → among l ks ≡ false
not_later l k ks h = or_right (is_key l k) (among l ks) h

-- a key that is among these isn't one that isn't
pub apart_by : (l k : Key) (ks : List Key) → among l ks ≡ true → among k ks ≡ false → is_key l k ≡ false
apart_by l k ks there gone =
    same_or_other l k _
    (λ e is. let wrong : true ≡ false = sym there ∙ ap (λ q. among q ks) is ∙ gone in cc)
    (λ e differ. e)

-- ---- each key once

-- all but one key
abbrev but : Key → List Key → List Key
but k ks = filter (λ l. not (is_key k l)) ks

but_drops : (k l : Key) (ks : List Key) → is_key k l ≡ true → but k (l ∷ ks) ≡ but k ks
but_drops k l ks e = ap (λ b. cond (not b) (l ∷ but k ks) (but k ks)) e

but_keeps : (k l : Key) (ks : List Key) → is_key k l ≡ false → but k (l ∷ ks) ≡ l ∷ but k ks
but_keeps k l ks e = ap (λ b. cond (not b) (l ∷ but k ks) (but k ks)) e

among_but-itself : (k : Key) (ks : List Key) → among k (but k ks) ≡ false
among_but-itself k [] = refl
among_but-itself k (m ∷ ks) =
    same_or_other k m _
    (λ e is. ap (among k) (but_drops k m ks e) ∙ among_but-itself k ks)
    (λ e differ. ap (among k) (but_keeps k m ks e) ∙ later_among k m (but k ks) e ∙ among_but-itself k ks)

among_but-other : (k l : Key) (ks : List Key) → is_key l k ≡ false → among l (but k ks) ≡ among l ks
among_but-other k l [] other = refl
among_but-other k l (m ∷ ks) other =
    same_or_other k m _
    (λ e is. ap (among l) (but_drops k m ks e) ∙ among_but-other k l ks other ∙ sym (later_among l m ks (ap (is_key l) (sym is) ∙ other)))
    (λ e differ. ap (among l) (but_keeps k m ks e) ∙ ap (λ b. is_key l m || b) (among_but-other k l ks other))

-- the same keys are there
pub among_each_once : (l : Key) (ks : List Key) → among l (each_once ks) ≡ among l ks
among_each_once l [] = refl
among_each_once l (k ∷ ks) =
    same_or_other l k _
    (λ e is. here_among l k (but k (each_once ks)) e ∙ sym (here_among l k ks e))
    (λ e differ. later_among l k (but k (each_once ks)) e ∙ among_but-other k l (each_once ks) e ∙ among_each_once l ks ∙ sym (later_among l k ks e))

fewer_among : (k l : Key) (ks : List Key) → among l ks ≡ false → among l (but k ks) ≡ false
fewer_among k l [] h = refl
fewer_among k l (m ∷ ks) h =
    same_or_other k m _
    (λ e is. ap (among l) (but_drops k m ks e) ∙ fewer_among k l ks (not_later l m ks h))
    (λ e differ. ap (among l) (but_keeps k m ks e) ∙ later_among l m (but k ks) (not_first l m ks h) ∙ fewer_among k l ks (not_later l m ks h))

once_but : (k : Key) (ks : List Key) → IsOnce ks → IsOnce (but k ks)
once_but k [] h = tt
once_but k (m ∷ ks) h =
    same_or_other k m _
    (λ e is. subst IsOnce (sym (but_drops k m ks e)) (once_but k ks h.1))
    (λ e differ. subst IsOnce (sym (but_keeps k m ks e)) (fewer_among k m ks h.0, once_but k ks h.1))

-- none of them stands twice
pub once_each_once : (ks : List Key) → IsOnce (each_once ks)
once_each_once [] = tt
once_each_once (k ∷ ks) = (among_but-itself k (each_once ks), once_but k (each_once ks) (once_each_once ks))

all_but : (p : Key → Bool) (k : Key) (ks : List Key) → list_all p ks ≡ true → list_all p (but k ks) ≡ true
all_but p k [] h = refl
all_but p k (m ∷ ks) h =
    let h2 = both_pass (p m) (list_all p ks) h in
    same_or_other k m _
    (λ e is. ap (list_all p) (but_drops k m ks e) ∙ all_but p k ks h2.1)
    (λ e differ. ap (list_all p) (but_keeps k m ks e) ∙ both (p m) (list_all p (but k ks)) h2.0 (all_but p k ks h2.1))

-- what holds of each of the keys
pub all_each_once : (p : Key → Bool) (ks : List Key) → list_all p ks ≡ true → list_all p (each_once ks) ≡ true
all_each_once p [] h = refl
all_each_once p (k ∷ ks) h =
    let h2 = both_pass (p k) (list_all p ks) h in
    both (p k) (list_all p (but k (each_once ks))) h2.0 (all_but p k (each_once ks) (all_each_once p ks h2.1))

-- ---- what updates make of a record

pub record_in-append : (l : Key) (o : Option Item) (xs ys : List Update) → record_in l o (xs ++ ys) ≡ record_in l (record_in l o xs) ys
record_in-append l o [] ys = refl
record_in-append l o (x ∷ xs) ys = record_in-append l (record_after l o x) xs ys

-- nothing, where they don't touch its key
pub untouched : (l : Key) (us : List Update) (o : Option Item) → among l (flat_map touched_by us) ≡ false → record_in l o us ≡ o
untouched l [] o h = refl
untouched l (update.InSync ∷ us) o h = untouched l us o h
untouched l (update.Put k x ∷ us) o h =
    ap (λ b. record_in l (cond b (Some x) o) us) (not_first l k (flat_map touched_by us) h) ∙ untouched l us o (not_later l k (flat_map touched_by us) h)
untouched l (update.Delete k ∷ us) o h =
    ap (λ b. record_in l (cond b None o) us) (not_first l k (flat_map touched_by us) h) ∙ untouched l us o (not_later l k (flat_map touched_by us) h)

-- where they do, it doesn't matter what stood there
pub settled : (l : Key) (us : List Update) (o p : Option Item) → among l (flat_map touched_by us) ≡ true → record_in l o us ≡ record_in l p us
settled l [] o p h = cc
settled l (update.InSync ∷ us) o p h = settled l us o p h
settled l (update.Put k x ∷ us) o p h =
    same_or_other l k _
    (λ e is. ap (λ b. record_in l (cond b (Some x) o) us) e ∙ sym (ap (λ b. record_in l (cond b (Some x) p) us) e))
    (λ e differ. settled l us (cond (is_key l k) (Some x) o) (cond (is_key l k) (Some x) p) (sym (later_among l k (flat_map touched_by us) e) ∙ h))
settled l (update.Delete k ∷ us) o p h =
    same_or_other l k _
    (λ e is. ap (λ b. record_in l (cond b None o) us) e ∙ sym (ap (λ b. record_in l (cond b None p) us) e))
    (λ e differ. settled l us (cond (is_key l k) None o) (cond (is_key l k) None p) (sym (later_among l k (flat_map touched_by us) e) ∙ h))

-- the same of the keys that they touch, each once
pub untouched_key : (l : Key) (us : List Update) (o : Option Item) → among l (touched_keys us) ≡ false → record_in l o us ≡ o
untouched_key l us o h = untouched l us o (sym (among_each_once l (flat_map touched_by us)) ∙ h)

pub settled_key : (l : Key) (us : List Update) (o : Option Item) → among l (touched_keys us) ≡ true → record_in l o us ≡ last_record us l
settled_key l us o h = settled l us o None (sym (among_each_once l (flat_map touched_by us)) ∙ h)

-- ---- what is left without the records at some keys

none_once : {A : Type 0} (a b : Bool) (x : Option A) → cond b None (cond a None x) ≡ cond (a || b) None x
none_once true true x = refl
none_once true false x = refl
none_once false b x = refl

pub without-record : (R : Resources) (ks : List Key) (l : Key) → record_at (without R ks) l ≡ cond (among l ks) None (record_at R l)
without-record R [] l = refl
without-record R (k ∷ ks) l =
    without-record (after_delete R k) ks l
    ∙ ap (cond (among l ks) None) (delete-record R k l)
    ∙ none_once (is_key l k) (among l ks) (record_at R l)

-- ---- what the steps make of a record

module _ (R : Resources) where
  deletes-none : (l : Key) (ks : List Key) → record_in l None (deletes_of R ks) ≡ None
  deletes-none l [] = refl
  deletes-none l (k ∷ ks) =
      elim (is_some (record_at R k)) as (λ b. record_in l None (cond b (update.Delete k ∷ []) [] ++ deletes_of R ks) ≡ None) [
        | true ↦ elim (is_key l k) as (λ b. record_in l (cond b None None) (deletes_of R ks) ≡ None) [
          | true ↦ deletes-none l ks
          | false ↦ deletes-none l ks
        ]
        | false ↦ deletes-none l ks
      ]

  no_record : {A : Type 0} (o : Option A) → is_some o ≡ false → o ≡ None
  no_record None h = refl
  no_record (Some x) h = cc

  -- the deletes leave nothing at their keys, and all else
  pub deletes-record : (l : Key) (ks : List Key) → record_in l (record_at R l) (deletes_of R ks) ≡ cond (among l ks) None (record_at R l)
  deletes-record l [] = refl
  deletes-record l (k ∷ ks) =
      let o = record_at R l in
      let left = deletes_of R ks in
      elim (is_some (record_at R k)) as (λ b. is_some (record_at R k) ≡ b → record_in l o (cond b (update.Delete k ∷ []) [] ++ left) ≡ cond (is_key l k || among l ks) None o) [
        | true ↦ λ there. same_or_other l k _
            (λ e is. ap (λ b. record_in l (cond b None o) left) e ∙ deletes-none l ks ∙ sym (ap (λ b. cond (b || among l ks) None o) e))
            (λ e differ. ap (λ b. record_in l (cond b None o) left) e ∙ deletes-record l ks ∙ sym (ap (λ b. cond (b || among l ks) None o) e))
        | false ↦ λ none. same_or_other l k _
            (λ e is.
            let absent : o ≡ None = no_record o (ap (λ q. is_some (record_at R q)) is ∙ none) in
            ap (λ p. record_in l p left) absent ∙ deletes-none l ks ∙ sym (ap (λ b. cond (b || among l ks) None o) e))
            (λ e differ. deletes-record l ks ∙ sym (ap (λ b. cond (b || among l ks) None o) e))
      ] refl

module _ (us : List Update) where
  -- a put of a key's last record, by what it makes of another record
  put-other : (l k : Key) (o p : Option Item) → is_key l k ≡ false → record_in l o (put_of k p) ≡ o
  put-other l k o None e = refl
  put-other l k o (Some x) e = ap (λ b. cond b (Some x) o) e

  put-same : (l k : Key) (o p : Option Item) → is_key l k ≡ true → o ≡ p → record_in l o (put_of k p) ≡ p
  put-same l k o None e is = is
  put-same l k o (Some x) e is = ap (λ b. cond b (Some x) o) e

  put-first : (l k : Key) (p : Option Item) → is_key l k ≡ true → record_in l None (put_of k p) ≡ p
  put-first l k None e = refl
  put-first l k (Some x) e = ap (λ b. cond b (Some x) None) e

  puts-other : (l : Key) (ks : List Key) (o : Option Item) → among l ks ≡ false → record_in l o (puts_of us ks) ≡ o
  puts-other l [] o h = refl
  puts-other l (k ∷ ks) o h =
      record_in-append l o (put_of k (last_record us k)) (puts_of us ks)
      ∙ ap (λ p. record_in l p (puts_of us ks)) (put-other l k o (last_record us k) (not_first l k ks h))
      ∙ puts-other l ks o (not_later l k ks h)

  puts-stay : (l : Key) (ks : List Key) → record_in l (last_record us l) (puts_of us ks) ≡ last_record us l
  puts-stay l [] = refl
  puts-stay l (k ∷ ks) =
      let o = last_record us l in
      record_in-append l o (put_of k (last_record us k)) (puts_of us ks)
      ∙ ap (λ p. record_in l p (puts_of us ks))
      (same_or_other l k _
      (λ e is. put-same l k o (last_record us k) e (ap (last_record us) is) ∙ ap (last_record us) (sym is))
      (λ e differ. put-other l k o (last_record us k) e))
      ∙ puts-stay l ks

  -- where nothing stood, the puts leave their keys' last records
  pub puts-record : (l : Key) (ks : List Key) → among l ks ≡ true → record_in l None (puts_of us ks) ≡ last_record us l
  puts-record l [] h = cc
  puts-record l (k ∷ ks) h =
      record_in-append l None (put_of k (last_record us k)) (puts_of us ks)
      ∙ same_or_other l k _
      (λ e is.
      ap (λ p. record_in l p (puts_of us ks)) (put-first l k (last_record us k) e ∙ ap (last_record us) (sym is))
      ∙ puts-stay l ks)
      (λ e differ.
      ap (λ p. record_in l p (puts_of us ks)) (put-other l k None (last_record us k) e)
      ∙ puts-record l ks (sym (later_among l k ks e) ∙ h))

  -- the steps make of each record what the updates make of it
  pub steps-record : (R : Resources) (l : Key) → record_in l (record_at R l) (steps_of R us) ≡ record_in l (record_at R l) us
  steps-record R l =
      let keys = touched_keys us in
      let o = record_at R l in
      record_in-append l o (deletes_of R keys) (puts_of us keys)
      ∙ ap (λ p. record_in l p (puts_of us keys)) (deletes-record R l keys)
      ∙ (elim (among l keys) as (λ b. among l keys ≡ b → record_in l (cond b None o) (puts_of us keys) ≡ record_in l o us) [
        | true ↦ λ h. puts-record l keys h ∙ sym (settled_key l us o h)
        | false ↦ λ h. puts-other l keys o h ∙ sym (untouched_key l us o h)
      ] refl)

-- ---- what holds of the updates holds of the steps

-- an update's record is one that an update puts
pub last-holds : (p : Update → Bool) (k : Key) (us : List Update) (o : Option Item) → list_all p us ≡ true → ((x : Item) → o ≡ Some x → p (update.Put k x) ≡ true) → (x : Item) → record_in k o us ≡ Some x → p (update.Put k x) ≡ true
last-holds p k [] o all first x is = first x is
last-holds p k (update.InSync ∷ us) o all first x is = last-holds p k us o (both_pass (p update.InSync) (list_all p us) all).1 first x is
last-holds p k (update.Put l y ∷ us) o all first x is =
    let h = both_pass (p (update.Put l y)) (list_all p us) all in
    last-holds p k us (cond (is_key k l) (Some y) o) h.1
    (λ z found. same_or_other k l _
    (λ e same.
    let one : Some y ≡ Some z = sym (ap (λ b. cond b (Some y) o) e) ∙ found in
    let value : y ≡ z = cc in
    ap (λ q. p (update.Put q z)) same ∙ ap (λ w. p (update.Put l w)) (sym value) ∙ h.0)
    (λ e differ. first z (sym (ap (λ b. cond b (Some y) o) e) ∙ found)))
    x is
last-holds p k (update.Delete l ∷ us) o all first x is =
    let h = both_pass (p (update.Delete l)) (list_all p us) all in
    last-holds p k us (cond (is_key k l) None o) h.1
    (λ z found. same_or_other k l _
    (λ e same. let wrong : None ≡ Some z = sym (ap (λ b. cond b None o) e) ∙ found in cc)
    (λ e differ. first z (sym (ap (λ b. cond b None o) e) ∙ found)))
    x is

none_put : {A : Type 0} (x : Item) → None ≡ Some x → A
none_put x is = cc

both_lists : {A : Type 0} (p : A → Bool) (xs ys : List A) → list_all p xs ≡ true → list_all p ys ≡ true → list_all p (xs ++ ys) ≡ true
both_lists p [] ys g h = h
both_lists p (x ∷ xs) ys g h = let b = both_pass (p x) (list_all p xs) g in both (p x) (list_all p (xs ++ ys)) b.0 (both_lists p xs ys b.1 h)

puts-hold : (p : Update → Bool) (us : List Update) (ks : List Key) → list_all p us ≡ true → list_all p (puts_of us ks) ≡ true
puts-hold p us [] all = refl
puts-hold p us (k ∷ ks) all = both_lists p (put_of k (last_record us k)) (puts_of us ks) (one (last_record us k) refl) (puts-hold p us ks all)
  where
    one : (o : Option Item) → last_record us k ≡ o → list_all p (put_of k o) ≡ true
    one None is = refl
    one (Some x) is = both (p (update.Put k x)) true (last-holds p k us None all (λ z found. none_put z found) x is) refl

deletes-hold : (p : Update → Bool) (R : Resources) (ks : List Key) → list_all (λ k. p (update.Delete k)) ks ≡ true → list_all p (deletes_of R ks) ≡ true
deletes-hold p R [] all = refl
deletes-hold p R (k ∷ ks) all =
    let h = both_pass (p (update.Delete k)) (list_all (λ l. p (update.Delete l)) ks) all in
    both_lists p (delete_of R k) (deletes_of R ks)
    (elim (is_some (record_at R k)) as (λ b. list_all p (cond b (update.Delete k ∷ []) []) ≡ true) [
      | true ↦ both (p (update.Delete k)) true h.0 refl
      | false ↦ refl
    ])
    (deletes-hold p R ks h.1)

touched-hold : (p : Update → Bool) (us : List Update) → ((k : Key) (x : Item) → p (update.Put k x) ≡ true → p (update.Delete k) ≡ true) → list_all p us ≡ true → list_all (λ k. p (update.Delete k)) (flat_map touched_by us) ≡ true
touched-hold p [] puts all = refl
touched-hold p (update.InSync ∷ us) puts all = touched-hold p us puts (both_pass (p update.InSync) (list_all p us) all).1
touched-hold p (update.Put k x ∷ us) puts all =
    let h = both_pass (p (update.Put k x)) (list_all p us) all in
    both (p (update.Delete k)) _ (puts k x h.0) (touched-hold p us puts h.1)
touched-hold p (update.Delete k ∷ us) puts all =
    let h = both_pass (p (update.Delete k)) (list_all p us) all in
    both (p (update.Delete k)) _ h.0 (touched-hold p us puts h.1)

-- a test that passes on the delete of each key whose put passes it passes on the steps where it does on the updates
pub steps-hold : (p : Update → Bool) (R : Resources) (us : List Update) → ((k : Key) (x : Item) → p (update.Put k x) ≡ true → p (update.Delete k) ≡ true) → list_all p us ≡ true → list_all p (steps_of R us) ≡ true
steps-hold p R us puts all =
    both_lists p (deletes_of R (touched_keys us)) (puts_of us (touched_keys us))
    (deletes-hold p R (touched_keys us) (all_each_once (λ k. p (update.Delete k)) (flat_map touched_by us) (touched-hold p us puts all)))
    (puts-hold p us (touched_keys us) all)
