-- What updates that are made together claim in the end, and what others claim.
use Rattle.std.proofs.Common.{◌≡◌, ℕ, ◌+◌, ◌<◌, true, false, cond, ◌||◌, List, [], ◌∷◌, ◌++◌, None, refl, sym, ap, ◌∙◌, arith}
use Rattle.std.specs.List.{list_all, flat_map}
use Rattle.fx_names.specs.Digests.{Digest}
use Rattle.fx_names.specs.declared.claim.Claim.{Claim}
use Rattle.fx_names.specs.Claims.{times}
use Rattle.fx_names.proofs.ClaimLists.{times-append}
use Rattle.fx_model.specs.declared.ids.Key.{Key}
use Rattle.fx_model.specs.declared.resources.Resources.{Resources}
use Rattle.fx_model.specs.declared.resources.Update.{Update}
use Rattle.fx_model.specs.Resources.{after_delete}
use Rattle.fx_model.specs.Formed.{is_formed}
use Rattle.fx_model.specs.Claims.{claims_at, all_claims, without, IsClashFree, touched_by}
use Rattle.fx_model.specs.Batches.{after_all, touched_keys, clash_all}
use Rattle.fx_model.specs.Steps.{is_key, record_at, last_record, record_claims}
use Rattle.fx_laws.proofs.ClaimsCounted.{times-at}
use Rattle.fx_laws.proofs.ClaimsApart.{fewer_apart, all_apart}
use Rattle.fx_laws.proofs.Records.{is_key-itself, record-delete-other, all-record, IsFramed, framed-back, framed-on, framed-all, framed-delete, framed-without, alike, claims-record}
use Rattle.fx_laws.proofs.TouchedKeys.{among, IsOnce, here_among, not_first, not_later, once_each_once, untouched_key, settled_key, without-record}

module _ (dg : Digest) where
  -- what a key claims that isn't deleted
  claims_stay : (R : Resources) (k l : Key) → is_key k l ≡ false → claims_at dg (after_delete R k) l ≡ claims_at dg R l
  claims_stay R k l other =
      let differ : l ≡ k → ⊥ = λ is. let wrong : true ≡ false = sym (is_key-itself k) ∙ ap (is_key k) (sym is) ∙ other in cc in
      claims-record dg (after_delete R k) l
      ∙ ap (λ node. record_claims dg node l (record_at (after_delete R k) l)) (framed-delete R k).node
      ∙ ap (record_claims dg R.node l) (record-delete-other R k l differ)
      ∙ sym (claims-record dg R l)

  all_stay : (R : Resources) (k : Key) (ks : List Key) → among k ks ≡ false → flat_map (claims_at dg (after_delete R k)) ks ≡ flat_map (claims_at dg R) ks
  all_stay R k [] gone = refl
  all_stay R k (l ∷ ks) gone =
      λ i. claims_stay R k l (not_first k l ks gone) i ++ all_stay R k ks (not_later k l ks gone) i

  none_before : (n : ℕ) → n ≡ 0 + n
  none_before n = omega arith

  grouped : (a b d : ℕ) → a + (b + d) ≡ (a + b) + d
  grouped a b d = omega arith

  -- what stands at some keys, and the rest
  pub times-keys : (c : Claim) (R : Resources) (ks : List Key) → IsOnce ks → times c (all_claims dg R) ≡ times c (flat_map (claims_at dg R) ks) + times c (all_claims dg (without R ks))
  times-keys c R [] once = none_before (times c (all_claims dg R))
  times-keys c R (k ∷ ks) once =
      let rest = flat_map (claims_at dg R) ks in
      let here = times c (claims_at dg R k) in
      let others = times c (all_claims dg (without (after_delete R k) ks)) in
      times-at c dg R k
      ∙ ap (λ n. here + n) (times-keys c (after_delete R k) ks once.1 ∙ ap (λ cs. times c cs + others) (all_stay R k ks once.0))
      ∙ grouped here (times c rest) others
      ∙ ap (λ n. n + others) (sym (times-append c (claims_at dg R k) rest))

  -- fewer records claim less
  fewer_claims : (c : Claim) (R : Resources) (ks : List Key) → 0 < times c (all_claims dg (without R ks)) → 0 < times c (all_claims dg R)
  fewer_claims c R [] there = there
  fewer_claims c R (k ∷ ks) there = omega (arith, fewer_claims c (after_delete R k) ks there, times-at c dg R k)

  -- parts of resources of which no two claim one name are so too
  pub parts_apart : (R : Resources) (ks : List Key) → IsClashFree dg R → IsClashFree dg (without R ks)
  parts_apart R ks apart = fewer_apart (all_claims dg R) (all_claims dg (without R ks)) (λ c there. fewer_claims c R ks there) apart

  module _ (R : Resources) (us : List Update) (formed : list_all is_formed us ≡ true) where
    abbrev keys : List Key
    keys = touched_keys us

    abbrev end : Resources
    end = after_all R us

    once : IsOnce keys
    once = once_each_once (flat_map touched_by us)

    same_left : (l : Key) → record_at (without end keys) l ≡ record_at (without R keys) l
    same_left l =
        without-record end keys l
        ∙ (elim (among l keys) as (λ b. among l keys ≡ b → cond b None (record_at end l) ≡ cond b None (record_at R l)) [
          | true ↦ λ h. refl
          | false ↦ λ h. all-record R us l formed ∙ untouched_key l us (record_at R l) h
        ] refl)
        ∙ sym (without-record R keys l)

    frame : IsFramed (without R keys) (without end keys)
    frame =
        framed-on (without R keys) R (without end keys) (framed-back R (without R keys) (framed-without R keys))
        (framed-on R end (without end keys) (framed-all R us) (framed-without end keys))

    -- the updates leave what other records claim
    pub others_stay : all_claims dg (without end keys) ≡ all_claims dg (without R keys)
    others_stay = ap (all_claims dg) (alike (without end keys) (without R keys) frame same_left)

    -- what the touched keys claim in the end, and what the others do
    pub times-end : (c : Claim) → times c (all_claims dg end) ≡ times c (flat_map (claims_at dg end) keys) + times c (all_claims dg (without R keys))
    times-end c = times-keys c end keys once ∙ ap (λ cs. times c (flat_map (claims_at dg end) keys) + times c cs) others_stay

    -- the same before
    pub times-start : (c : Claim) → times c (all_claims dg R) ≡ times c (flat_map (claims_at dg R) keys) + times c (all_claims dg (without R keys))
    times-start c = times-keys c R keys once

    -- updates that clash with nothing in the end leave resources of which no two claim one name
    pub batch_apart : IsClashFree dg R → clash_all dg R us ≡ None → IsClashFree dg end
    batch_apart apart free =
        let kept = all_claims dg (without R keys) in
        let new = flat_map (claims_at dg end) keys in
        fewer_apart (kept ++ new) (all_claims dg end)
        (λ c there. omega (arith, there, times-end c, times-append c kept new))
        (all_apart kept new (parts_apart R keys apart) free)

    -- a touched key claims in the end what its last record does
    claims_last : (k : Key) → among k keys ≡ true → claims_at dg end k ≡ record_claims dg R.node k (last_record us k)
    claims_last k there =
        claims-record dg end k
        ∙ ap (λ node. record_claims dg node k (record_at end k)) (framed-all R us).node
        ∙ ap (record_claims dg R.node k) (all-record R us k formed ∙ settled_key k us (record_at R k) there)

    claims_each : (ks : List Key) → ((k : Key) → among k ks ≡ true → among k keys ≡ true) → flat_map (claims_at dg end) ks ≡ flat_map (λ k. record_claims dg R.node k (last_record us k)) ks
    claims_each [] there = refl
    claims_each (k ∷ ks) there = λ i.
        claims_last k (there k (here_among k k ks (is_key-itself k))) i ++ claims_each ks (λ l h. there l (later k l ks h)) i
      where
        later : (k l : Key) (ks : List Key) → among l ks ≡ true → among l (k ∷ ks) ≡ true
        later k l ks h =
            elim (is_key l k) as (λ b. (b || among l ks) ≡ true) [
              | true ↦ refl
              | false ↦ h
            ]

    pub claims_end : flat_map (claims_at dg end) keys ≡ flat_map (λ k. record_claims dg R.node k (last_record us k)) keys
    claims_end = claims_each keys (λ k h. h)
