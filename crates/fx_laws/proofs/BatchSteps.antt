-- The steps of updates that are made together lead to the same end, and no two holders claim one name between them.
use Rattle.std.proofs.Common.{◌≡◌, true, false, cond, ◌&&◌, ◌||◌, List, [], ◌∷◌, ◌++◌, Some, None, is_some, refl, sym, ap, ◌∙◌, subst, arith}
use Rattle.std.specs.List.{list_all, flat_map}
use Rattle.fx_base.specs.Same.{both_pass}
use Rattle.fx_names.specs.Digests.{Digest}
use Rattle.fx_names.specs.Claims.{times}
use Rattle.fx_model.specs.declared.ids.Key.{Key}
use Rattle.fx_model.specs.declared.resources.Item.{Item}
use Rattle.fx_model.specs.declared.resources.Resources.{Resources}
use Rattle.fx_model.specs.declared.resources.Update.{Update}
use Rattle.fx_model.specs.declared.resources.Update.TheVariants as update
use Rattle.fx_model.specs.Resources.{after, after_put, after_delete}
use Rattle.fx_model.specs.Formed.{is_formed, is_formed_key, is_formed_item, are_formed, puts_workload_interface, have_workload_interfaces}
use Rattle.fx_model.specs.Claims.{claims_at, all_claims, touched_by, IsClashFree}
use Rattle.fx_model.specs.Batches.{after_all, touched_keys, clash_all}
use Rattle.fx_model.specs.Steps.{is_key, is_change, record_at, last_record, record_claims, put_of, deletes_of, puts_of, steps_of}
use Rattle.fx_laws.specs.Stages.{StayClashFree}
use Rattle.fx_laws.proofs.Clashing.{clash-delete}
use Rattle.fx_laws.proofs.ClaimsCounted.{times-at, times-put}
use Rattle.fx_laws.proofs.ClaimsApart.{fewer_apart, clash_free_after}
use Rattle.fx_laws.proofs.FormedLemmas.{are_formed-after, have_workload_interfaces-after}
use Rattle.fx_laws.proofs.Records.{is_key-itself, record-put-other, all-record, framed-back, framed-on, framed-after, framed-all, mark_stays-all, alike-in_sync, claims-record}
use Rattle.fx_laws.proofs.TouchedKeys.{among, IsOnce, here_among, apart_by, once_each_once, deletes-record, steps-record, steps-hold}
use Rattle.fx_laws.proofs.BatchClaims.{batch_apart}

-- ---- updates in turn

pub after_all-append : (R : Resources) (xs ys : List Update) → after_all R (xs ++ ys) ≡ after_all (after_all R xs) ys
after_all-append R [] ys = refl
after_all-append R (x ∷ xs) ys = after_all-append (after R x) xs ys

-- formed resources stay so
pub all-formed : (R : Resources) (us : List Update) → are_formed R ≡ true → list_all is_formed us ≡ true → are_formed (after_all R us) ≡ true
all-formed R [] was formed = was
all-formed R (u ∷ us) was formed =
    let h = both_pass (is_formed u) (list_all is_formed us) formed in
    all-formed (after R u) us (are_formed-after R was u h.0) h.1

-- and local endpoints stay on interfaces of workloads
pub all-on_workloads : (R : Resources) (us : List Update) → have_workload_interfaces R ≡ true → list_all (puts_workload_interface R.node) us ≡ true → have_workload_interfaces (after_all R us) ≡ true
all-on_workloads R [] was on = was
all-on_workloads R (u ∷ us) was on =
    let h = both_pass (puts_workload_interface R.node u) (list_all (puts_workload_interface R.node) us) on in
    all-on_workloads (after R u) us (have_workload_interfaces-after R was u h.0)
    (ap (λ node. list_all (puts_workload_interface node) us) (framed-after R u).node ∙ h.1)

-- ---- the steps of updates

pub steps-formed : (R : Resources) (us : List Update) → list_all is_formed us ≡ true → list_all is_formed (steps_of R us) ≡ true
steps-formed R us formed = steps-hold is_formed R us (λ k x h. (both_pass (is_formed_key k) (is_formed_item k x) h).0) formed

steps-change : (R : Resources) (us : List Update) → list_all is_change us ≡ true → list_all is_change (steps_of R us) ≡ true
steps-change R us changes = steps-hold is_change R us (λ k x h. refl) changes

-- the last of the stages is what the updates leave
pub steps-end : (R : Resources) (us : List Update) → list_all is_formed us ≡ true → list_all is_change us ≡ true → after_all R (steps_of R us) ≡ after_all R us
steps-end R us formed changes =
    let steps = steps_of R us in
    alike-in_sync (after_all R steps) (after_all R us)
    (framed-on (after_all R us) R (after_all R steps) (framed-back R (after_all R us) (framed-all R us)) (framed-all R steps))
    (λ l. all-record R steps l (steps-formed R us formed) ∙ steps-record us R l ∙ sym (all-record R us l formed))
    (mark_stays-all R steps (steps-change R us changes) ∙ sym (mark_stays-all R us changes))

-- ---- no two holders claim one name between them

module _ (dg : Digest) where
  stay-append : (R : Resources) (xs ys : List Update) → StayClashFree dg R xs → StayClashFree dg (after_all R xs) ys → StayClashFree dg R (xs ++ ys)
  stay-append R [] ys first next = next
  stay-append R (x ∷ xs) ys first next = (first.0, stay-append (after R x) xs ys first.1 next)

  -- deletes leave fewer claims
  deletes-stay : (R S : Resources) (ks : List Key) → list_all is_formed (deletes_of R ks) ≡ true → IsClashFree dg S → StayClashFree dg S (deletes_of R ks)
  deletes-stay R S [] formed apart = tt
  deletes-stay R S (k ∷ ks) formed apart =
      elim (is_some (record_at R k)) as (λ b. list_all is_formed (cond b (update.Delete k ∷ []) [] ++ deletes_of R ks) ≡ true → StayClashFree dg S (cond b (update.Delete k ∷ []) [] ++ deletes_of R ks)) [
        | true ↦ λ h.
            let both = both_pass (is_formed (update.Delete k)) (list_all is_formed (deletes_of R ks)) h in
            let now : IsClashFree dg (after_delete S k) = clash_free_after dg S (update.Delete k) both.0 apart (clash-delete dg S k) in
            (now, deletes-stay R (after_delete S k) ks both.1 now)
        | false ↦ λ h. deletes-stay R S ks h apart
      ] formed

  -- a record is put where none was: before it there are fewer claims
  put-back : (S : Resources) (k : Key) (x : Item) → is_formed (update.Put k x) ≡ true → record_at S k ≡ None → IsClashFree dg (after_put S k x) → IsClashFree dg S
  put-back S k x formed none apart =
      let nothing : claims_at dg S k ≡ [] = claims-record dg S k ∙ ap (record_claims dg S.node k) none in
      fewer_apart (all_claims dg (after_put S k x)) (all_claims dg S)
      (λ c there. let none_here : times c (claims_at dg S k) ≡ 0 = ap (times c) nothing in omega (arith, there, times-at c dg S k, none_here, times-put c dg S k x formed)) apart

  module _ (us : List Update) where
    -- nothing stands at these keys
    abbrev AreGone : Resources → List Key → Type 0
    AreGone S ks = (l : Key) → among l ks ≡ true → record_at S l ≡ None

    later_gone : (S : Resources) (k : Key) (ks : List Key) → AreGone S (k ∷ ks) → AreGone S ks
    later_gone S k ks gone l there =
        gone l (elim (is_key l k) as (λ b. (b || among l ks) ≡ true) [
          | true ↦ refl
          | false ↦ there
        ])

    still_gone : (S : Resources) (k : Key) (x : Item) (ks : List Key) → among k ks ≡ false → AreGone S (k ∷ ks) → AreGone (after_put S k x) ks
    still_gone S k x ks once gone l there =
        let other : is_key l k ≡ false = apart_by l k ks there once in
        record-put-other S k l x (λ is. let wrong : true ≡ false = sym (is_key-itself l) ∙ ap (is_key l) is ∙ other in cc)
        ∙ later_gone S k ks gone l there

    -- puts at keys where nothing stood: the end has all claims of what stands between
    puts-stay-free : (S : Resources) (ks : List Key) → IsOnce ks → list_all is_formed (puts_of us ks) ≡ true → AreGone S ks → IsClashFree dg (after_all S (puts_of us ks)) → IsClashFree dg S × StayClashFree dg S (puts_of us ks)
    puts-stay-free S [] once formed gone apart = (apart, tt)
    puts-stay-free S (k ∷ ks) once formed gone apart =
        elim (last_record us k) as (λ o. list_all is_formed (put_of k o ++ puts_of us ks) ≡ true → IsClashFree dg (after_all S (put_of k o ++ puts_of us ks)) → IsClashFree dg S × StayClashFree dg S (put_of k o ++ puts_of us ks)) [
          | None ↦ λ h free. puts-stay-free S ks once.1 h (later_gone S k ks gone) free
          | Some x ↦ λ h free.
              let both = both_pass (is_formed (update.Put k x)) (list_all is_formed (puts_of us ks)) h in
              let rest = puts-stay-free (after_put S k x) ks once.1 both.1 (still_gone S k x ks once.0 gone) free in
              (put-back S k x both.0 (gone k (here_among k k ks (is_key-itself k))) rest.0, (rest.0, rest.1))
        ] formed apart

  module _ (R : Resources) (us : List Update) (formed : list_all is_formed us ≡ true) (changes : list_all is_change us ≡ true) where
    abbrev keys : List Key
    keys = touched_keys us

    -- both kinds of steps are formed
    parts-formed : (xs ys : List Update) → list_all is_formed (xs ++ ys) ≡ true → (list_all is_formed xs ≡ true) × (list_all is_formed ys ≡ true)
    parts-formed [] ys h = (refl, h)
    parts-formed (x ∷ xs) ys h =
        let both = both_pass (is_formed x) (list_all is_formed (xs ++ ys)) h in
        let rest = parts-formed xs ys both.1 in
        (ap (λ b. b && list_all is_formed xs) both.0 ∙ rest.0, rest.1)

    -- once they are deleted, nothing stands at the touched keys
    all_gone : (l : Key) → among l keys ≡ true → record_at (after_all R (deletes_of R keys)) l ≡ None
    all_gone l there =
        all-record R (deletes_of R keys) l (parts-formed (deletes_of R keys) (puts_of us keys) (steps-formed R us formed)).0
        ∙ deletes-record R l keys
        ∙ ap (λ b. cond b None (record_at R l)) there

    pub steps-stay : IsClashFree dg R → clash_all dg R us ≡ None → StayClashFree dg R (steps_of R us)
    steps-stay apart free =
        let both = parts-formed (deletes_of R keys) (puts_of us keys) (steps-formed R us formed) in
        let between = after_all R (deletes_of R keys) in
        let same : after_all R us ≡ after_all between (puts_of us keys) = sym (steps-end R us formed changes) ∙ after_all-append R (deletes_of R keys) (puts_of us keys) in
        stay-append R (deletes_of R keys) (puts_of us keys)
        (deletes-stay R R keys both.0 apart)
        (puts-stay-free us between keys (once_each_once (flat_map touched_by us)) both.1 all_gone
        (subst (λ (S : Resources). IsClashFree dg S) same (batch_apart dg R us formed apart free))).1
