-- A message takes one number of operations, since any two lists of the chains that differ are of one length.
use Rattle.std.proofs.Common.{◌≡◌, ◌≢◌, ◌≤◌, ℕ, suc, ◌+◌, Bool, true, false, cond, ◌||◌, List, [], ◌∷◌, length, is_some, refl, sym, ap, ◌∙◌, arith}
use Rattle.std.specs.List.{AllByRecursion}
use Rattle.std.specs.FinMap as maps
use Rattle.fx_base.proofs.ExtendedKeys.{is_among}
use Rattle.fx_base.proofs.Taken.{get_taken}
use Rattle.fx_model.specs.declared.view.View.{View}
use Rattle.fx_model.specs.declared.view.ViewEndpoint.{ViewEndpoint}
use Rattle.fx_model.specs.Messages.{Change, EndpointPut, step}
use Rattle.fx_model.specs.Tables.{ChainName, Chains}
use Rattle.fx_model.specs.Tree.{tree_of}
use Rattle.fx_laws.proofs.EntryLookups.{is, is_itself, is_same}
use Rattle.fx_dispatch.specs.Plans.{AreApart, DifferAt}
use Rattle.fx_dispatch.proofs.Exact.{no_equal}
use Rattle.fx_driver.specs.Stepping.{IsStep}
use Rattle.fx_driver.specs.Operations.{own_operations, dispatch_chains, Takes}
use Rattle.fx_driver.proofs.Interfaces.{same_keys}
use Rattle.fx_driver.proofs.Steps.{stepped}
use Rattle.fx_driver.proofs.Told.{told}

-- ---- names without one of them

abbrev taken_out : ChainName → List ChainName → List ChainName
taken_out x [] = []
taken_out x (y ∷ ys) = cond (is x y) ys (y ∷ taken_out x ys)

one_shorter : (x : ChainName) (ys : List ChainName) → is_among x ys ≡ true → length ys ≡ suc (length (taken_out x ys))
one_shorter x [] h = cc
one_shorter x (y ∷ ys) h =
    elim (is x y) as (λ t. (t || is_among x ys) ≡ true → length (y ∷ ys) ≡ suc (length (cond t ys (y ∷ taken_out x ys)))) [
      | true ↦ λ _. refl
      | false ↦ λ later. ap suc (one_shorter x ys later)
    ] h

still_among : (x q : ChainName) (ys : List ChainName) → is q x ≡ false → is_among q ys ≡ true → is_among q (taken_out x ys) ≡ true
still_among x q [] other h = h
still_among x q (y ∷ ys) other h =
    elim (is x y) as (λ t. is x y ≡ t → is_among q (cond t ys (y ∷ taken_out x ys)) ≡ true) [
      | true ↦ λ p. ap (λ t. t || is_among q ys) (sym (ap (is q) (sym (is_same x y p)) ∙ other)) ∙ h
      | false ↦ λ p. elim (is q y) as (λ t. (t || is_among q ys) ≡ true → (t || is_among q (taken_out x ys)) ≡ true) [
        | true ↦ λ _. refl
        | false ↦ λ later. still_among x q ys other later
      ] h
    ] refl

all_left : (x : ChainName) (xs ys : List ChainName) → AllByRecursion (λ n. n ≢ x) xs → AllByRecursion (λ n. is_among n ys ≡ true) xs → AllByRecursion (λ n. is_among n (taken_out x ys) ≡ true) xs
all_left x [] ys h g = tt
all_left x (n ∷ ns) ys h g = (still_among x n ys (no_equal n x (λ same. h.0 (sym same))) g.0, all_left x ns ys h.1 g.1)

one_more : (a b c : ℕ) → a ≤ b → c ≡ suc b → suc a ≤ c
one_more a b c h e = omega (arith, h, e)

-- names that are apart are no more than those that they are among
no_more : (xs ys : List ChainName) → AreApart xs → AllByRecursion (λ n. is_among n ys ≡ true) xs → length xs ≤ length ys
no_more [] ys h g = omega arith
no_more (x ∷ xs) ys h g = one_more _ _ _ (no_more xs (taken_out x ys) h.1 (all_left x xs ys h.0 g.1)) (one_shorter x ys g.0)

-- ---- chains that differ

no_true : true ≡ false → ⊥
no_true e = cc

is_later : (t u : Bool) → (t || u) ≡ false → (t ≡ false) × (u ≡ false)
is_later true u e = absurd (no_true e)
is_later false u e = (refl, e)

none_equal : (q : ChainName) (ys : List ChainName) → is_among q ys ≡ false → AllByRecursion (λ n. n ≢ q) ys
none_equal q [] e = tt
none_equal q (y ∷ ys) e =
    let h = is_later (is q y) (is_among q ys) e in
    (λ same. no_true (sym (ap (is q) same ∙ is_itself q) ∙ h.0), none_equal q ys h.1)

-- a name at which two maps of chains differ is among all those
each_among : (a b : Chains) (xs ys : List ChainName) → AllByRecursion (λ n. maps.get a n ≢ maps.get b n) xs → ((q : ChainName) → AllByRecursion (λ n. n ≢ q) ys → maps.get a q ≡ maps.get b q) → AllByRecursion (λ n. is_among n ys ≡ true) xs
each_among a b [] ys differ others = tt
each_among a b (x ∷ xs) ys differ others = (
  elim (is_among x ys) as (λ t. is_among x ys ≡ t → t ≡ true) [
    | true ↦ λ _. refl
    | false ↦ λ e. absurd (differ.0 (others x (none_equal x ys e)))
  ] refl,
  each_among a b xs ys differ.1 others,
)

one_length : (a b : Chains) (xs ys : List ChainName) → DifferAt a b xs → DifferAt a b ys → length xs ≡ length ys
one_length a b xs ys x y =
    let fewer = no_more xs ys x.once (each_among a b xs ys x.differ y.others) in
    let more = no_more ys xs y.once (each_among a b ys xs y.differ x.others) in
    omega (arith, fewer, more)

pub one_number : (c : Change) (before after : View) (m n : ℕ) → Takes c before after m → Takes c before after n → m ≡ n
one_number c before after m n t u =
    t.1.1 ∙ ap (λ k. own_operations c + k) (one_length (dispatch_chains before) (dispatch_chains after) t.0 u.0 t.1.0 u.1.0) ∙ sym u.1.1

-- ---- interfaces that stay

none_at : (a b : Chains) → a ≡ b → (names : List ChainName) → DifferAt a b names → length names ≡ 0
none_at a b same [] h = refl
none_at a b same (n ∷ ns) h = absurd (h.differ.0 (ap (λ (m : Chains). maps.get m n) same))

pub own_alone : (c : Change) (before after : View) (n : ℕ) → ((k : List ℕ) → maps.contains_key after.endpoints k ≡ maps.contains_key before.endpoints k) → Takes c before after n → n ≡ own_operations c
own_alone c before after n same t =
    let trees : dispatch_chains before ≡ dispatch_chains after = ap tree_of (sym (same_keys before.endpoints after.endpoints same)) in
    let none = none_at (dispatch_chains before) (dispatch_chains after) trees t.0 t.1.0 in
    omega (arith, t.1.1, none)

-- what is there already stays
pub there_again : (s w : View) (k : List ℕ) (e : ViewEndpoint) → IsStep s w (EndpointPut k e) → maps.contains_key s.endpoints k ≡ true → (j : List ℕ) → maps.contains_key (step s w).endpoints j ≡ maps.contains_key s.endpoints j
there_again s w k e step_is there j =
    ap (λ (v : View). maps.contains_key v.endpoints j) (stepped s w (EndpointPut k e) step_is.next)
    ∙ ap is_some (get_taken s.endpoints w.endpoints k j)
    ∙ elim (is j k) as (λ t. is j k ≡ t → is_some (cond t (maps.get w.endpoints k) (maps.get s.endpoints j)) ≡ maps.contains_key s.endpoints j) [
      | true ↦ λ p. ap is_some (told s w (EndpointPut k e) step_is.next).wanted ∙ sym (ap (maps.contains_key s.endpoints) (is_same j k p) ∙ there)
      | false ↦ λ _. refl
    ] refl
