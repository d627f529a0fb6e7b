-- What a registry keeps as a name's holding changes.
use Rattle.std.proofs.lemmas.Bool.Decides.{nat_tests}
use Rattle.std.proofs.Common.{◌≡◌, ◌==◌, ℕ, zero, suc, ◌+◌, ◌-◌, ◌<◌, Bool, true, false, cond, ◌&&◌, not, ltb, List, [], ◌∷◌, ◌++◌, Option, Some, None, refl, sym, ap, ◌∙◌, subst, arith, append_assoc}
use Rattle.std.proofs.lemmas.Bool.{ltb-true, ltb-false, not-true}
use Rattle.std.specs.Str.{bytes_eq}
use Rattle.std.specs.Cmp.Lexicographic.{nat_list_eq_equiv}
use Rattle.std.specs.FinMap as map
use Rattle.std.specs.FinMap.{FinMap, get-insert, get-remove, get-empty}
use Rattle.fx_base.specs.declared.kernel_name.KernelName.{KernelName}
use Rattle.fx_base.specs.Same.{same_numbers, same_bytes, both_pass}
use Rattle.fx_base.specs.SameName.{same_kernel_name}
use Rattle.fx_base.specs.contracts.kernel_name.KernelNameOrd.TheImpl.{cmp-value}
use Rattle.fx_base.specs.contracts.kernel_name.KernelNameOrd.TheImpl.Laws.{matches_eq-law}
use Rattle.fx_names.specs.declared.claim.Claim.{Claim}
use Rattle.fx_names.specs.declared.registry.Holding.{Holding}
use Rattle.fx_names.specs.declared.registry.Registry.{Registry}
use Rattle.fx_names.specs.Claims.{same_name, is_same, clashes, times, other_holder, first_clash}
use Rattle.fx_names.specs.Holding.{HoldsClaims, uses_of}
use Rattle.fx_names.proofs.Orders.{name_total}
use Rattle.fx_names.proofs.ClaimLists.{same_name-refl, same_name-swap, bytes_eq-refl, other_holder-none, other_holder-some, first_clash-miss, times-append, times-none, times-itself, times-other}

-- the registry's look-ups are the other's but at one name
abbrev pub Differs : Registry → Registry → KernelName → Option Holding → Type 0
Differs r s n o = (q : KernelName) → map.get s.names q ≡ cond (same_name q n) o (map.get r.names q)

module _ {X : Type 0} where
  pub name-insert : (m : FinMap cmp-value.it X) (k : KernelName) (v : X) (q : KernelName) → map.get (map.insert m k v) q ≡ cond (same_name q k) (Some v) (map.get m q)
  name-insert m k v q = get-insert name_total m k v q ∙ ap (λ b. cond b (Some v) (map.get m q)) (sym (matches_eq-law q k))

  pub name-remove : (m : FinMap cmp-value.it X) (k q : KernelName) → map.get (map.remove m k) q ≡ cond (same_name q k) None (map.get m q)
  name-remove m k q = get-remove name_total m k q ∙ ap (λ b. cond b None (map.get m q)) (sym (matches_eq-law q k))

shadowed : {A : Type 0} (b : Bool) (x y z : A) → cond b x (cond b y z) ≡ cond b x z
shadowed true x y z = refl
shadowed false x y z = refl

pub Differs-gone : (r s : Registry) (n : KernelName) → s.names ≡ map.remove r.names n → Differs r s n None
Differs-gone r s n e = λ q. ap (λ m. map.get m q) e ∙ name-remove r.names n q

pub Differs-put : (r s : Registry) (n : KernelName) (x : Holding) → s.names ≡ map.insert (map.remove r.names n) n x → Differs r s n (Some x)
Differs-put r s n x e = λ q.
    ap (λ m. map.get m q) e ∙ name-insert (map.remove r.names n) n x q
    ∙ ap (cond (same_name q n) (Some x)) (name-remove r.names n q) ∙ shadowed (same_name q n) (Some x) None (map.get r.names q)

-- a registry keeps claims by how often each is among them
pub HoldsClaims-same : (r : Registry) (xs ys : List Claim) → HoldsClaims r xs → ((c : Claim) → times c xs ≡ times c ys) → HoldsClaims r ys
HoldsClaims-same r xs ys k h = record { used = k.used; each = λ c. k.each c ∙ h c }

pub HoldsClaims-empty : (r : Registry) → r.names ≡ map.empty → HoldsClaims r []
HoldsClaims-empty r e = record {
  used = λ n x h. let no : None ≡ Some x = sym (get-empty cmp-value.it n) ∙ ap (λ m. map.get m n) (sym e) ∙ h in cc;
  each = λ c. ap (λ m. uses_of (map.get m c.name) c) e ∙ ap (λ o. uses_of o c) (get-empty cmp-value.it c.name);
}

at_name : (c : Claim) (n : KernelName) → same_name c.name n ≡ true → c ≡ record { name = n; holder = c.holder }
at_name c n e = λ i. record { name = same_kernel_name c.name n e i; holder = c.holder }

pub HoldsClaims-differs : (r s : Registry) (n : KernelName) (o : Option Holding) (xs ys : List Claim) → HoldsClaims r xs → Differs r s n o → ((x : Holding) → o ≡ Some x → 0 < x.uses) → ((h : List ℕ) → uses_of o (record { name = n; holder = h }) ≡ times (record { name = n; holder = h }) ys) → ((c : Claim) → same_name c.name n ≡ false → times c xs ≡ times c ys) → HoldsClaims s ys
HoldsClaims-differs r s n o xs ys k d used here others = record {
  used = λ q x h.
      elim (same_name q n) as (λ b. cond b o (map.get r.names q) ≡ Some x → 0 < x.uses) [
        | true ↦ λ g. used x g
        | false ↦ λ g. k.used q x g
      ] (sym (d q) ∙ h);
  each = λ c. ap (λ w. uses_of w c) (d c.name) ∙
      (elim (same_name c.name n) as (λ b. same_name c.name n ≡ b → uses_of (cond b o (map.get r.names c.name)) c ≡ times c ys) [
        | true ↦ λ e. subst (λ w. uses_of o w ≡ times w ys) (sym (at_name c n e)) (here c.holder)
        | false ↦ λ e. k.each c ∙ others c e
      ] refl);
}

-- claims on one name are one where their holders are
same_there : (n : KernelName) (h k : List ℕ) → is_same (record { name = n; holder = h }) (record { name = n; holder = k }) ≡ bytes_eq h k
same_there n h k = ap (λ b. b && bytes_eq h k) (same_name-refl n)

clash_there : (c : Claim) (h : List ℕ) → bytes_eq c.holder h ≡ false → clashes c (record { name = c.name; holder = h }) ≡ true
clash_there c h e = λ i. same_name-refl c.name i && not (e i)

apart : (c d : Claim) → same_name c.name d.name ≡ false → is_same c d ≡ false
apart c d e = ap (λ b. b && bytes_eq c.holder d.holder) e

abbrev uses_or : Option Holding → ℕ
uses_or None = 0
uses_or (Some x) = x.uses

-- ---- a claim is put

last_other : (c d : Claim) (others : List Claim) → same_name c.name d.name ≡ false → times c others ≡ times c (others ++ d ∷ [])
last_other c d others e = omega (arith, times-append c others (d ∷ []), times-other c d [] (apart c d e))

put_here : (c : Claim) (n : ℕ) (others : List Claim) → n ≡ times c others + 1 → other_holder others c ≡ None → (h : List ℕ) → cond (bytes_eq c.holder h) n 0 ≡ times (record { name = c.name; holder = h }) (others ++ c ∷ [])
put_here c n others u free h =
    elim (bytes_eq c.holder h) as (λ b. bytes_eq c.holder h ≡ b → cond b n 0 ≡ times (record { name = c.name; holder = h }) (others ++ c ∷ [])) [
      | true ↦ λ e. subst (λ t. n ≡ times (record { name = c.name; holder = t }) (others ++ c ∷ [])) (same_bytes c.holder h e) (omega (arith, times-append c others (c ∷ []), times-itself c []))
      | false ↦ λ e.
          let d : Claim = record { name = c.name; holder = h } in
          omega (arith, times-append d others (c ∷ []), times-other d c [] (same_there c.name h c.holder ∙ nat_list_eq_equiv.symm h c.holder ∙ e), times-none others c d free (clash_there c h e))
    ] refl

HoldsClaims-put : (r s : Registry) (c : Claim) (n : ℕ) (others : List Claim) → s.names ≡ map.insert (map.remove r.names c.name) c.name (record { holder = c.holder; uses = n }) → n ≡ times c others + 1 → HoldsClaims r others → other_holder others c ≡ None → HoldsClaims s (others ++ c ∷ [])
HoldsClaims-put r s c n others e u k free =
    HoldsClaims-differs r s c.name (Some (record { holder = c.holder; uses = n })) others (others ++ c ∷ []) k (Differs-put r s c.name _ e)
    (λ x g. subst (λ o. 0 < uses_or o) g (omega arith))
    (put_here c n others u free)
    (λ d a. last_other d c others a)

-- a holder that is there is the claim's, where none else holds the name
there_already : (r : Registry) (c : Claim) (x : Holding) (others : List Claim) → map.get r.names c.name ≡ Some x → HoldsClaims r others → other_holder others c ≡ None → (x.holder ≡ c.holder) × (x.uses ≡ times c others)
there_already r c x others g k free =
    let d : Claim = record { name = c.name; holder = x.holder } in
    let all : x.uses ≡ times d others = ap (λ b. cond b x.uses 0) (sym (bytes_eq-refl x.holder)) ∙ ap (λ o. uses_of o d) (sym g) ∙ k.each d in
    elim (bytes_eq c.holder x.holder) as (λ b. bytes_eq c.holder x.holder ≡ b → (x.holder ≡ c.holder) × (x.uses ≡ times c others)) [
      | true ↦ λ e. let h = same_bytes c.holder x.holder e in (sym h, all ∙ ap (λ t. times (record { name = c.name; holder = t }) others) (sym h))
      | false ↦ λ e. absurd (omega (arith, k.used c.name x g, times-none others c d free (clash_there c x.holder e)))
    ] refl

pub HoldsClaims-raised : (r s : Registry) (c : Claim) (x : Holding) (others : List Claim) → map.get r.names c.name ≡ Some x → s.names ≡ map.insert (map.remove r.names c.name) c.name (record { holder = x.holder; uses = x.uses + 1 }) → HoldsClaims r others → other_holder others c ≡ None → HoldsClaims s (others ++ c ∷ [])
HoldsClaims-raised r s c x others g e k free =
    let t = there_already r c x others g k free in
    HoldsClaims-put r s c (x.uses + 1) others (e ∙ ap (λ h. map.insert (map.remove r.names c.name) c.name (record { holder = h; uses = x.uses + 1 })) t.0) (ap (λ n. n + 1) t.1) k free

pub HoldsClaims-fresh : (r s : Registry) (c : Claim) (others : List Claim) → map.get r.names c.name ≡ None → s.names ≡ map.insert (map.remove r.names c.name) c.name (record { holder = c.holder; uses = 1 }) → HoldsClaims r others → other_holder others c ≡ None → HoldsClaims s (others ++ c ∷ [])
HoldsClaims-fresh r s c others g e k free =
    let none : 0 ≡ times c others = ap (λ o. uses_of o c) (sym g) ∙ k.each c in
    HoldsClaims-put r s c 1 others e (omega arith) k free

-- ---- a claim is given back

first_other : (c d : Claim) (others : List Claim) → same_name c.name d.name ≡ false → times c (d ∷ others) ≡ times c others
first_other c d others e = times-other c d others (apart c d e)

given_holder : (r : Registry) (c : Claim) (x : Holding) (others : List Claim) → map.get r.names c.name ≡ Some x → HoldsClaims r (c ∷ others) → x.holder ≡ c.holder
given_holder r c x others g k =
    let all : cond (bytes_eq x.holder c.holder) x.uses 0 ≡ times c others + 1 = ap (λ o. uses_of o c) (sym g) ∙ k.each c ∙ times-itself c others in
    elim (bytes_eq x.holder c.holder) as (λ b. bytes_eq x.holder c.holder ≡ b → cond b x.uses 0 ≡ times c others + 1 → x.holder ≡ c.holder) [
      | true ↦ λ e a. same_bytes x.holder c.holder e
      | false ↦ λ e a. absurd (omega arith)
    ] refl all

-- what is left of a holder's uses, by each holder
left : (r : Registry) (c : Claim) (x : Holding) (others : List Claim) → map.get r.names c.name ≡ Some x → HoldsClaims r (c ∷ others) → (h : List ℕ) → cond (bytes_eq x.holder h) (x.uses - 1) 0 ≡ times (record { name = c.name; holder = h }) others
left r c x others g k h =
    let d : Claim = record { name = c.name; holder = h } in
    let b : is_same d c ≡ bytes_eq x.holder h = same_there c.name h c.holder ∙ nat_list_eq_equiv.symm h c.holder ∙ ap (λ t. bytes_eq t h) (sym (given_holder r c x others g k)) in
    let all : cond (bytes_eq x.holder h) x.uses 0 ≡ cond (bytes_eq x.holder h) 1 0 + times d others = ap (λ o. uses_of o d) (sym g) ∙ k.each d ∙ ap (λ b. cond b 1 0 + times d others) b in
    elim (bytes_eq x.holder h) as (λ b. cond b x.uses 0 ≡ cond b 1 0 + times d others → cond b (x.uses - 1) 0 ≡ times d others) [
      | true ↦ λ a. omega arith
      | false ↦ λ a. omega arith
    ] all

positive : (n : ℕ) → (n == 0) ≡ false → 0 < n
positive zero e = cc
positive (suc n) e = omega arith

pub HoldsClaims-lowered : (r s : Registry) (c : Claim) (x : Holding) (n : ℕ) (others : List Claim) → map.get r.names c.name ≡ Some x → s.names ≡ map.insert (map.remove r.names c.name) c.name (record { holder = x.holder; uses = n }) → n ≡ x.uses - 1 → (n == 0) ≡ false → HoldsClaims r (c ∷ others) → HoldsClaims s others
HoldsClaims-lowered r s c x n others g e u z k =
    HoldsClaims-differs r s c.name (Some (record { holder = x.holder; uses = n })) (c ∷ others) others k (Differs-put r s c.name _ e)
    (λ y w. subst (λ o. 0 < uses_or o) w (positive n z))
    (λ h. ap (λ m. cond (bytes_eq x.holder h) m 0) u ∙ left r c x others g k h)
    (λ d a. first_other d c others a)

none_left : (b : Bool) (n m : ℕ) → n ≡ 0 → cond b n 0 ≡ m → 0 ≡ m
none_left true n m z e = sym z ∙ e
none_left false n m z e = e

pub HoldsClaims-gone : (r s : Registry) (c : Claim) (x : Holding) (others : List Claim) → map.get r.names c.name ≡ Some x → s.names ≡ map.remove r.names c.name → (x.uses - 1 == 0) ≡ true → HoldsClaims r (c ∷ others) → HoldsClaims s others
HoldsClaims-gone r s c x others g e z k =
    HoldsClaims-differs r s c.name None (c ∷ others) others k (Differs-gone r s c.name e)
    (λ y w. cc)
    (λ h. none_left (bytes_eq x.holder h) (x.uses - 1) _ (same_numbers (x.uses - 1) 0 z) (left r c x others g k h))
    (λ d a. first_other d c others a)

-- ---- who else holds a name, once some claims are taken out

-- what clashes with a claim is a claim on its name by another holder
clash_is : (c e : Claim) → clashes c e ≡ true → (e ≡ record { name = c.name; holder = e.holder }) × (bytes_eq c.holder e.holder ≡ false)
clash_is c e h =
    let p = both_pass (same_name c.name e.name) (not (bytes_eq c.holder e.holder)) h in
    (at_name e c.name (same_name-swap e.name c.name ∙ p.0), not-true (bytes_eq c.holder e.holder) p.1)

nobody : (c : Claim) (others : List Claim) → ((h : List ℕ) → bytes_eq c.holder h ≡ false → times (record { name = c.name; holder = h }) others ≡ 0) → other_holder others c ≡ None
nobody c others f = other_holder-none others c (λ e q. let i = clash_is c e q in ap (λ d. times d others) i.0 ∙ f e.holder i.1)

somebody : (c : Claim) (t : List ℕ) (others : List Claim) → bytes_eq c.holder t ≡ false → 0 < times (record { name = c.name; holder = t }) others → ((h : List ℕ) → bytes_eq t h ≡ false → times (record { name = c.name; holder = h }) others ≡ 0) → other_holder others c ≡ Some t
somebody c t others a p f =
    other_holder-some others c (record { name = c.name; holder = t }) (clash_there c t a) p (λ e q w.
    let i = clash_is c e q in
    let n : bytes_eq t e.holder ≡ false = nat_list_eq_equiv.symm t e.holder ∙ sym (same_there c.name e.holder t) ∙ ap (λ d. is_same d (record { name = c.name; holder = t })) (sym i.0) ∙ w in
    ap (λ d. times d others) i.0 ∙ f e.holder n)

module _ (r : Registry) (c : Claim) (old others : List Claim) (k : HoldsClaims r (old ++ others)) where
  -- how often a holder claims the name
  held : (o : Option Holding) → map.get r.names c.name ≡ o → (h : List ℕ) → uses_of o (record { name = c.name; holder = h }) ≡ times (record { name = c.name; holder = h }) old + times (record { name = c.name; holder = h }) others
  held o g h =
      let d : Claim = record { name = c.name; holder = h } in
      ap (λ o. uses_of o d) (sym g) ∙ k.each d ∙ times-append d old others

  -- one that isn't the holder doesn't claim it
  another : (x : Holding) → map.get r.names c.name ≡ Some x → (h : List ℕ) → bytes_eq x.holder h ≡ false → times (record { name = c.name; holder = h }) others ≡ 0
  another x g h e = let all = ap (λ b. cond b x.uses 0) (sym e) ∙ held (Some x) g h in omega arith

  pub other_holder-free : map.get r.names c.name ≡ None → other_holder others c ≡ None
  other_holder-free g = nobody c others (λ h e. omega (arith, held None g h))

  pub other_holder-own : (x : Holding) → map.get r.names c.name ≡ Some x → bytes_eq x.holder c.holder ≡ true → other_holder others c ≡ None
  other_holder-own x g e = nobody c others (λ h a. another x g h (ap (λ t. bytes_eq t h) (same_bytes x.holder c.holder e) ∙ a))

  -- the holder's claims on the name in others
  the_holder : (x : Holding) → map.get r.names c.name ≡ Some x → x.uses ≡ times (record { name = c.name; holder = x.holder }) old + times (record { name = c.name; holder = x.holder }) others
  the_holder x g = ap (λ b. cond b x.uses 0) (sym (bytes_eq-refl x.holder)) ∙ held (Some x) g x.holder

  pub other_holder-gone : (x : Holding) → map.get r.names c.name ≡ Some x → ltb (times (record { name = c.name; holder = x.holder }) old) x.uses ≡ false → other_holder others c ≡ None
  other_holder-gone x g e = nobody c others (λ h a.
      elim (bytes_eq x.holder h) as (λ b. bytes_eq x.holder h ≡ b → times (record { name = c.name; holder = h }) others ≡ 0) [
        | true ↦ λ q. subst (λ t. times (record { name = c.name; holder = t }) others ≡ 0) (same_bytes x.holder h q) (omega (arith, the_holder x g, ltb-false _ _ e))
        | false ↦ λ q. another x g h q
      ] refl)

  pub other_holder-there : (x : Holding) → map.get r.names c.name ≡ Some x → bytes_eq x.holder c.holder ≡ false → ltb (times (record { name = c.name; holder = x.holder }) old) x.uses ≡ true → other_holder others c ≡ Some x.holder
  other_holder-there x g n e =
      somebody c x.holder others (nat_list_eq_equiv.symm c.holder x.holder ∙ n) (omega (arith, the_holder x g, ltb-true _ _ e)) (λ h q. another x g h q)

-- ---- what a registry beside holds

-- how often a claim is among those that a registry keeps
pub times-held : (r : Registry) (held : List Claim) → HoldsClaims r held → (d : Claim) (o : Option Holding) → map.get r.names d.name ≡ o → times d held ≡ uses_of o d
times-held r held k d o g = sym (k.each d) ∙ ap (λ w. uses_of w d) g

-- some or none
pub some_uses : (n : ℕ) → not (n == 0) ≡ ltb 0 n
some_uses n = grind (arith, nat_tests)

-- the holder of a claim that is kept is the claim's
holds_own : (r : Registry) (c : Claim) (held : List Claim) → HoldsClaims r held → 0 < times c held → (o : Option Holding) → map.get r.names c.name ≡ o → (P : Type 0) → ((x : Holding) → map.get r.names c.name ≡ Some x → bytes_eq x.holder c.holder ≡ true → P) → P
holds_own r c held k there None g P found = let none : times c held ≡ 0 = times-held r held k c None g in absurd (omega (arith, there, none))
holds_own r c held k there (Some x) g P found =
    elim (bytes_eq x.holder c.holder) as (λ b. bytes_eq x.holder c.holder ≡ b → times c held ≡ cond b x.uses 0 → P) [
      | true ↦ λ e all. found x g e
      | false ↦ λ e all. let none : times c held ≡ 0 = all in absurd (omega (arith, there, none))
    ] refl (times-held r held k c (Some x) g)

-- nobody else holds the name of a claim that is kept
others_free : (r : Registry) (c : Claim) (held rest : List Claim) → HoldsClaims r (held ++ c ∷ rest) → other_holder held c ≡ None
others_free r c held rest k =
    let there : HoldsClaims r ((c ∷ rest) ++ held) = HoldsClaims-same r (held ++ c ∷ rest) ((c ∷ rest) ++ held) k (λ d. omega (arith, times-append d held (c ∷ rest), times-append d (c ∷ rest) held)) in
    let more : times c ((c ∷ rest) ++ held) ≡ times c (rest ++ held) + 1 = times-itself c (rest ++ held) in
    holds_own r c ((c ∷ rest) ++ held) there (omega (arith, more)) (map.get r.names c.name) refl _
    (λ x g e. other_holder-own r c (c ∷ rest) held there x g e)

-- claims that are kept don't clash
pub kept_free : (r : Registry) (held new rest : List Claim) → HoldsClaims r (held ++ (new ++ rest)) → first_clash held new ≡ None
kept_free r held [] rest k = refl
kept_free r held (c ∷ cs) rest k =
    first_clash-miss held c cs (others_free r c held (cs ++ rest) k)
    ∙ kept_free r (held ++ c ∷ []) cs rest (subst (HoldsClaims r) (sym (append_assoc held (c ∷ []) (cs ++ rest))) k)
