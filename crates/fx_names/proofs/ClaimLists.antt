-- Claims among others: which are one, which clash, and how often they are there.
use Rattle.std.proofs.Common.{◌≡◌, ℕ, ◌+◌, ◌<◌, ◌≤◌, true, false, cond, ◌&&◌, not, List, [], ◌∷◌, ◌++◌, Some, None, refl, sym, ap, ◌∙◌, arith, length, get_or, take, drop, append_assoc}
use Rattle.std.proofs.lemmas.List.{take_more, drop_more, drop_all, take-append-drop}
use Rattle.std.specs.Str.{bytes_eq}
use Rattle.std.specs.Ordering.{is_eq}
use Rattle.std.specs.Cmp.{tied_itself, eq_by_cmp_equiv}
use Rattle.std.specs.Cmp.Lexicographic.{nat_list_eq_equiv}
use Rattle.fx_base.specs.declared.kernel_name.KernelName.{KernelName}
use Rattle.fx_base.specs.Same.{same_bytes, both_pass}
use Rattle.fx_base.specs.SameName.{same_kernel_name}
use Rattle.fx_base.specs.contracts.kernel_name.KernelNameOrd.TheImpl.Laws.{matches_eq-law}
use Rattle.fx_names.specs.declared.claim.Claim.{Claim}
use Rattle.fx_names.specs.Claims.{same_name, is_same, clashes, times, other_holder, first_clash}
use Rattle.fx_names.proofs.Orders.{name_total}

pub same_name-refl : (n : KernelName) → same_name n n ≡ true
same_name-refl n = matches_eq-law n n ∙ ap is_eq (tied_itself name_total n)

pub same_name-swap : (m n : KernelName) → same_name m n ≡ same_name n m
same_name-swap m n = matches_eq-law m n ∙ (eq_by_cmp_equiv name_total).symm m n ∙ sym (matches_eq-law n m)

pub bytes_eq-refl : (t : List ℕ) → bytes_eq t t ≡ true
bytes_eq-refl t = nat_list_eq_equiv.refl t

pub same_claim : (c d : Claim) → is_same c d ≡ true → c ≡ d
same_claim c d e =
    let p = both_pass (same_name c.name d.name) (bytes_eq c.holder d.holder) e in
    λ i. record { name = same_kernel_name c.name d.name p.0 i; holder = same_bytes c.holder d.holder p.1 i }

pub is_same-refl : (c : Claim) → is_same c c ≡ true
is_same-refl c = ap (λ b. b && bytes_eq c.holder c.holder) (same_name-refl c.name) ∙ bytes_eq-refl c.holder

pub is_same-swap : (c d : Claim) → is_same c d ≡ is_same d c
is_same-swap c d = λ i. same_name-swap c.name d.name i && nat_list_eq_equiv.symm c.holder d.holder i

pub clashes-swap : (c d : Claim) → clashes c d ≡ clashes d c
clashes-swap c d = λ i. same_name-swap c.name d.name i && not (nat_list_eq_equiv.symm c.holder d.holder i)

-- ---- how often

pub times-append : (c : Claim) (xs ys : List Claim) → times c (xs ++ ys) ≡ times c xs + times c ys
times-append c [] ys = omega arith
times-append c (x ∷ xs) ys = let e = times-append c xs ys in omega arith

pub times-next : (c d : Claim) (ds : List Claim) → is_same c d ≡ true → times c (d ∷ ds) ≡ times c ds + 1
times-next c d ds e = ap (λ b. cond b 1 0 + times c ds) e ∙ omega arith

pub times-other : (c d : Claim) (ds : List Claim) → is_same c d ≡ false → times c (d ∷ ds) ≡ times c ds
times-other c d ds e = ap (λ b. cond b 1 0 + times c ds) e ∙ omega arith

pub times-itself : (c : Claim) (ds : List Claim) → times c (c ∷ ds) ≡ times c ds + 1
times-itself c ds = times-next c c ds (is_same-refl c)

-- one more in a walk
pub times-more : (c : Claim) (xs : List Claim) (i : ℕ) (x : Claim) → i < length xs → x ≡ get_or xs i x → times c (take (i + 1) xs) ≡ times c (take i xs) + cond (is_same c x) 1 0
times-more c xs i x h e =
    ap (times c) (take_more xs i x h) ∙ times-append c (take i xs) (get_or xs i x ∷ []) ∙ ap (λ d. times c (take i xs) + (cond (is_same c d) 1 0 + 0)) (sym e) ∙ omega arith

-- ---- who else holds a name

pub other_holder-hit : (d : Claim) (ds : List Claim) (c : Claim) → clashes c d ≡ true → other_holder (d ∷ ds) c ≡ Some d.holder
other_holder-hit d ds c e = ap (λ b. cond b (Some d.holder) (other_holder ds c)) e

pub other_holder-miss : (d : Claim) (ds : List Claim) (c : Claim) → clashes c d ≡ false → other_holder (d ∷ ds) c ≡ other_holder ds c
other_holder-miss d ds c e = ap (λ b. cond b (Some d.holder) (other_holder ds c)) e

pub other_holder-first : (xs ys : List Claim) (c : Claim) (h : List ℕ) → other_holder xs c ≡ Some h → other_holder (xs ++ ys) c ≡ Some h
other_holder-first [] ys c h e = cc
other_holder-first (x ∷ xs) ys c h e =
    elim (clashes c x) as (λ b. cond b (Some x.holder) (other_holder xs c) ≡ Some h → cond b (Some x.holder) (other_holder (xs ++ ys) c) ≡ Some h) [
      | true ↦ λ g. g
      | false ↦ λ g. other_holder-first xs ys c h g
    ] e

pub other_holder-later : (xs ys : List Claim) (c : Claim) → other_holder xs c ≡ None → other_holder (xs ++ ys) c ≡ other_holder ys c
other_holder-later [] ys c e = refl
other_holder-later (x ∷ xs) ys c e =
    elim (clashes c x) as (λ b. cond b (Some x.holder) (other_holder xs c) ≡ None → cond b (Some x.holder) (other_holder (xs ++ ys) c) ≡ other_holder ys c) [
      | true ↦ λ g. cc
      | false ↦ λ g. other_holder-later xs ys c g
    ] e

-- what is left in a walk
pub left_at : (cs : List Claim) (i : ℕ) (c : Claim) → i < length cs → c ≡ get_or cs i c → drop i cs ≡ c ∷ drop (i + 1) cs
left_at cs i c h e = drop_more cs i c h ∙ ap (λ d. d ∷ drop (i + 1) cs) (sym e)

-- one more in a walk, and the end of a walk at a hit
pub other_holder-more : (xs : List Claim) (i : ℕ) (x c : Claim) → i < length xs → x ≡ get_or xs i x → other_holder (take i xs) c ≡ None → clashes x c ≡ false → other_holder (take (i + 1) xs) c ≡ None
other_holder-more xs i x c h e n f =
    ap (λ l. other_holder l c) (take_more xs i x h ∙ ap (λ d. take i xs ++ d ∷ []) (sym e))
    ∙ other_holder-later (take i xs) (x ∷ []) c n ∙ other_holder-miss x [] c (clashes-swap c x ∙ f)

pub other_holder-at : (xs : List Claim) (i : ℕ) (x c : Claim) → i < length xs → x ≡ get_or xs i x → other_holder (take i xs) c ≡ None → clashes x c ≡ true → other_holder xs c ≡ Some x.holder
other_holder-at xs i x c h e n t =
    ap (λ l. other_holder l c) (sym (take-append-drop i xs) ∙ ap (λ l. take i xs ++ l) (left_at xs i x h e))
    ∙ other_holder-later (take i xs) (x ∷ drop (i + 1) xs) c n ∙ other_holder-hit x (drop (i + 1) xs) c (clashes-swap c x ∙ t)

-- ---- the first clash

pub first_clash-hit : (held : List Claim) (c : Claim) (cs : List Claim) (h : List ℕ) → other_holder held c ≡ Some h → first_clash held (c ∷ cs) ≡ Some (record { name = c.name; holder = h })
first_clash-hit held c cs h e = rw (e, first_clash)

pub first_clash-miss : (held : List Claim) (c : Claim) (cs : List Claim) → other_holder held c ≡ None → first_clash held (c ∷ cs) ≡ first_clash (held ++ c ∷ []) cs
first_clash-miss held c cs e = rw (e, first_clash)

pub first_clash-head : (held : List Claim) (c : Claim) (cs : List Claim) → first_clash held (c ∷ cs) ≡ None → other_holder held c ≡ None
first_clash-head held c cs e =
    elim (other_holder held c) as (λ o. other_holder held c ≡ o → o ≡ None) [
      | None ↦ λ q. refl
      | Some h ↦ λ q. let hit = first_clash-hit held c cs h q in cc
    ] refl

pub first_clash-tail : (held : List Claim) (c : Claim) (cs : List Claim) → first_clash held (c ∷ cs) ≡ None → first_clash (held ++ c ∷ []) cs ≡ None
first_clash-tail held c cs e = sym (first_clash-miss held c cs (first_clash-head held c cs e)) ∙ e

-- one more in a walk, and its end
module _ (held cs : List Claim) (i : ℕ) (c : Claim) (h : i < length cs) (e : c ≡ get_or cs i c) where
  pub longer : held ++ take (i + 1) cs ≡ (held ++ take i cs) ++ c ∷ []
  longer = ap (λ l. held ++ l) (take_more cs i c h ∙ ap (λ d. take i cs ++ d ∷ []) (sym e)) ∙ sym (append_assoc held (take i cs) (c ∷ []))

  pub first_clash-more : other_holder (held ++ take i cs) c ≡ None → first_clash (held ++ take i cs) (drop i cs) ≡ first_clash (held ++ take (i + 1) cs) (drop (i + 1) cs)
  first_clash-more n = ap (first_clash (held ++ take i cs)) (left_at cs i c h e) ∙ first_clash-miss (held ++ take i cs) c (drop (i + 1) cs) n ∙ ap (λ l. first_clash l (drop (i + 1) cs)) (sym longer)

  pub first_clash-at : (t : List ℕ) → other_holder (held ++ take i cs) c ≡ Some t → first_clash (held ++ take i cs) (drop i cs) ≡ Some (record { name = c.name; holder = t })
  first_clash-at t n = ap (first_clash (held ++ take i cs)) (left_at cs i c h e) ∙ first_clash-hit (held ++ take i cs) c (drop (i + 1) cs) t n

  -- what is left doesn't clash
  pub first_clash-free : first_clash (held ++ take i cs) (drop i cs) ≡ None → (other_holder (held ++ take i cs) c ≡ None) × (first_clash (held ++ take (i + 1) cs) (drop (i + 1) cs) ≡ None)
  first_clash-free n =
      let f : first_clash (held ++ take i cs) (c ∷ drop (i + 1) cs) ≡ None = ap (first_clash (held ++ take i cs)) (sym (left_at cs i c h e)) ∙ n in
      (first_clash-head (held ++ take i cs) c (drop (i + 1) cs) f, ap (λ l. first_clash l (drop (i + 1) cs)) longer ∙ first_clash-tail (held ++ take i cs) c (drop (i + 1) cs) f)

pub first_clash-end : (held cs : List Claim) (i : ℕ) → length cs ≤ i → first_clash (held ++ take i cs) (drop i cs) ≡ None
first_clash-end held cs i h = ap (first_clash (held ++ take i cs)) (drop_all i cs h)

-- ---- what the times say of who holds a name

pub other_holder-none : (ds : List Claim) (c : Claim) → ((e : Claim) → clashes c e ≡ true → times e ds ≡ 0) → other_holder ds c ≡ None
other_holder-none [] c h = refl
other_holder-none (d ∷ ds) c h =
    elim (clashes c d) as (λ b. clashes c d ≡ b → cond b (Some d.holder) (other_holder ds c) ≡ None) [
      | true ↦ λ q. absurd (omega (arith, h d q, times-itself d ds))
      | false ↦ λ q. other_holder-none ds c (λ e w. omega (arith, h e w))
    ] refl

pub times-none : (ds : List Claim) (c e : Claim) → other_holder ds c ≡ None → clashes c e ≡ true → times e ds ≡ 0
times-none [] c e n h = refl
times-none (d ∷ ds) c e n h =
    elim (clashes c d) as (λ b. clashes c d ≡ b → cond b (Some d.holder) (other_holder ds c) ≡ None → times e (d ∷ ds) ≡ 0) [
      | true ↦ λ q g. cc
      | false ↦ λ q g. elim (is_same e d) as (λ b. is_same e d ≡ b → cond b 1 0 + times e ds ≡ 0) [
        | true ↦ λ w. let p = ap (clashes c) (same_claim e d w) in cc
        | false ↦ λ w. omega (arith, times-none ds c e g h)
      ] refl
    ] refl n

pub other_holder-some : (ds : List Claim) (c d : Claim) → clashes c d ≡ true → 0 < times d ds → ((e : Claim) → clashes c e ≡ true → is_same e d ≡ false → times e ds ≡ 0) → other_holder ds c ≡ Some d.holder
other_holder-some [] c d q p h = absurd (omega arith)
other_holder-some (x ∷ xs) c d q p h =
    elim (clashes c x) as (λ b. clashes c x ≡ b → cond b (Some x.holder) (other_holder xs c) ≡ Some d.holder) [
      | true ↦ λ w. elim (is_same x d) as (λ b. is_same x d ≡ b → Some x.holder ≡ Some d.holder) [
        | true ↦ λ e. ap (λ k. Some k.holder) (same_claim x d e)
        | false ↦ λ e. absurd (omega (arith, h x w e, times-itself x xs))
      ] refl
      | false ↦ λ w. elim (is_same d x) as (λ b. is_same d x ≡ b → other_holder xs c ≡ Some d.holder) [
        | true ↦ λ e. let p = ap (clashes c) (same_claim d x e) in cc
        | false ↦ λ e. other_holder-some xs c d q (omega (arith, times-other d x xs e)) (λ y a b. omega (arith, h y a b))
      ] refl
    ] refl
