-- What holds of all branches of names.
use Rattle.std.proofs.Common.{◌≡◌, ℕ, true, false, cond, List, [], ◌∷◌, map, filter, take, drop, length, Some, is_some, refl, sym, ap, ◌∙◌, subst}
use Rattle.std.specs.List.{AllByRecursion}
use Rattle.std.specs.Ordering.{nat_cmp, is_eq}
use Rattle.std.specs.declared.cmp.Ordering.TheVariants.{Less, Equal, Greater}
use Rattle.std.specs.Cmp.Lexicographic.{slice_cmp, nat_list_cmp_total}
use Rattle.std.specs.FinMap as maps
use Rattle.std.specs.FinMap.{find, put}
use Rattle.std.specs.FinMap.Entries.{by_order}
use Rattle.fx_base.specs.Set as set
use Rattle.fx_base.proofs.KeyCases.{bytes_exact}
use Rattle.fx_base.proofs.Found.{each, entries_found}
use Rattle.fx_model.specs.Tree.{Branch, shared_prefix, next_byte, names_found, branches, has_child, children}
use Rattle.fx_laws.proofs.Gathering.{gathered, gathered_branches}

-- a byte, or nothing, and names of which all are of these
pub record IsBranchOf (Is : List ℕ → Type 0) (b : Branch) : Type 0 where
  pub short : take 1 b.0 ≡ b.0
  pub within : AllByRecursion Is b.1

-- a branch that has a chain
pub record IsChildOf (Is : List ℕ → Type 0) (b : Branch) : Type 0 where
  pub branch : IsBranchOf Is b
  pub has : has_child b.0 b.1 ≡ true

all_put : (P : Branch → Type 0) (k : List ℕ) (v : List (List ℕ)) (bs : List Branch) → P (k, v) → AllByRecursion P bs → AllByRecursion P (put (slice_cmp nat_cmp) k v bs)
all_put P k v [] h all = (h, tt)
all_put P k v (b ∷ bs) h all =
    elim (slice_cmp nat_cmp k b.0) as (λ r. slice_cmp nat_cmp k b.0 ≡ r → AllByRecursion P (by_order r ((k, v) ∷ b ∷ bs) ((b.0, v) ∷ bs) (b ∷ put (slice_cmp nat_cmp) k v bs))) [
      | Less ↦ λ p. (h, all)
      | Equal ↦ λ p. (subst (λ (j : List ℕ). P (j, v)) (bytes_exact k b.0 p) h, all.1)
      | Greater ↦ λ p. (all.0, all_put P k v bs h all.1)
    ] refl

once : (xs : List ℕ) → take 1 (take 1 xs) ≡ take 1 xs
once [] = refl
once (x ∷ xs) = refl

module _ (Is : List ℕ → Type 0) where
  found_within : (k : List ℕ) (bs : List Branch) → AllByRecursion (IsBranchOf Is) bs → AllByRecursion Is (names_found (find (slice_cmp nat_cmp) k bs))
  found_within k [] h = tt
  found_within k (b ∷ bs) h =
      elim (slice_cmp nat_cmp k b.0) as (λ r. AllByRecursion Is (names_found (cond (is_eq r) (Some b.1) (find (slice_cmp nat_cmp) k bs)))) [
        | Less ↦ found_within k bs h.1
        | Equal ↦ h.0.within
        | Greater ↦ found_within k bs h.1
      ]

  pub branches_within : (shared : List ℕ) (xs : List (List ℕ)) → AllByRecursion Is xs → AllByRecursion (IsBranchOf Is) (branches shared xs)
  branches_within shared [] h = tt
  branches_within shared (x ∷ xs) h =
      let k = next_byte shared x in
      let rest = branches_within shared xs h.1 in
      all_put (IsBranchOf Is) k (x ∷ names_found (find (slice_cmp nat_cmp) k (branches shared xs))) (branches shared xs)
      (record { short = once (drop (length shared) x); within = (h.0, found_within k (branches shared xs) rest) }) rest

  kept_within : (bs : List Branch) → AllByRecursion (IsBranchOf Is) bs → AllByRecursion (IsChildOf Is) (filter (λ b. has_child b.0 b.1) bs)
  kept_within [] h = tt
  kept_within (b ∷ bs) h =
      let left = filter (λ (c : Branch). has_child c.0 c.1) bs in
      elim (has_child b.0 b.1) as (λ t. has_child b.0 b.1 ≡ t → AllByRecursion (IsChildOf Is) (cond t (b ∷ left) left)) [
        | true ↦ λ p. (record { branch = h.0; has = p }, kept_within bs h.1)
        | false ↦ λ p. kept_within bs h.1
      ] refl

  pub children_within : (names : List (List ℕ)) → AllByRecursion Is names → AllByRecursion (IsChildOf Is) (children names)
  children_within names h = kept_within (branches (shared_prefix names) names) (branches_within (shared_prefix names) names h)

-- what has a chain is one byte
pub one_byte : (P : List ℕ → Type 0) (c : List ℕ) (names : List (List ℕ)) → take 1 c ≡ c → has_child c names ≡ true → ((n : ℕ) → P (n ∷ [])) → P c
one_byte P [] names short has each = let wrong : false ≡ true = has in cc
one_byte P (n ∷ []) names short has each = each n
one_byte P (n ∷ m ∷ c) names short has each = let wrong : n ∷ [] ≡ n ∷ m ∷ c = short in cc

-- a set has its items
pub items_there : (s : set.Set (slice_cmp nat_cmp)) → AllByRecursion (λ x. set.contains s x ≡ true) (set.items s)
items_there s = over (maps.entries s) (entries_found nat_list_cmp_total s)
  where
    over : (es : List (List ℕ × Unit {0})) → AllByRecursion (λ e. maps.get s e.0 ≡ Some e.1) es → AllByRecursion (λ x. set.contains s x ≡ true) (map (λ e. e.0) es)
    over [] h = tt
    over (e ∷ es) h = (ap is_some h.0, over es h.1)

-- each branch's key leads to it
pub each_found : (shared : List ℕ) (xs : List (List ℕ)) → AllByRecursion (λ b. find (slice_cmp nat_cmp) b.0 (branches shared xs) ≡ Some b.1) (branches shared xs)
each_found shared xs =
    let m = gathered shared maps.empty xs in
    subst (λ (es : List Branch). AllByRecursion (λ b. find (slice_cmp nat_cmp) b.0 es ≡ Some b.1) es) (gathered_branches shared xs)
    (each (λ b. maps.get m b.0 ≡ Some b.1) (λ b. find (slice_cmp nat_cmp) b.0 (maps.entries m) ≡ Some b.1) (λ b h. sym (maps.get-entries m b.0) ∙ h) (maps.entries m) (entries_found nat_list_cmp_total m))
