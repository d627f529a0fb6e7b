-- What stands at a name among chains that are written one after another, where each is a branch's.
use Rattle.std.proofs.Common.{◌≡◌, ℕ, Bool, true, false, cond, ◌&&◌, ◌||◌, List, [], ◌∷◌, ◌++◌, Option, Some, None, refl, sym, ap, ◌∙◌}
use Rattle.std.specs.Prelude.{T}
use Rattle.std.specs.List.{flat_map}
use Rattle.std.specs.Ordering.{nat_cmp, is_eq, is_lt}
use Rattle.std.specs.declared.cmp.Ordering.{Ordering}
use Rattle.std.specs.declared.cmp.Ordering.TheVariants.{Less, Equal, Greater}
use Rattle.std.specs.Cmp.Lexicographic.{slice_cmp, nat_list_cmp_total}
use Rattle.std.specs.FinMap as maps
use Rattle.std.specs.FinMap.{find, is_sorted}
use Rattle.std.specs.FinMap.Entries.{below_all}
use Rattle.fx_base.specs.Extended.{extended, collected}
use Rattle.fx_base.proofs.KeyCases.{bytes_exact}
use Rattle.fx_base.proofs.ExtendedKeys.{is_among}
use Rattle.fx_model.specs.declared.chain.ChainRule.{ChainRule}
use Rattle.fx_model.specs.Tables.{ChainName, Chains}
use Rattle.fx_model.specs.Tree.{Branch}
use Rattle.fx_laws.proofs.EntryLookups as lookups
pub use Rattle.fx_laws.proofs.EntryLookups.{first, second, last, last-append}
use Rattle.fx_laws.proofs.Gathering.{is}

less : (r : Ordering) → T (is_lt r) → r ≡ Less
less Less p = refl
less Equal p = absurd p
less Greater p = absurd p

cond_both : {A : Type 0} (b : Bool) (x : A) → cond b x x ≡ x
cond_both true x = refl
cond_both false x = refl

abbrev Entries : Type 0
Entries = List (ChainName × List ChainRule)

pub get-extended : (m : Chains) (es : Entries) (q : ChainName) → maps.get (extended m es) q ≡ last es q (maps.get m q)
get-extended m es q = lookups.get-extended nat_list_cmp_total m es q

pub get-collected : (es : Entries) (q : ChainName) → maps.get (collected {R = slice_cmp nat_cmp} es) q ≡ last es q None
get-collected es q = lookups.get-collected nat_list_cmp_total es q

either_assoc : (a b c : Bool) → ((a || b) || c) ≡ (a || (b || c))
either_assoc true b c = refl
either_assoc false b c = refl

pub among-append : (q : ChainName) (xs ys : List ChainName) → is_among q (xs ++ ys) ≡ (is_among q xs || is_among q ys)
among-append q [] ys = refl
among-append q (x ∷ xs) ys = ap (λ b. is q x || b) (among-append q xs ys) ∙ sym (either_assoc (is q x) (is_among q xs) (is_among q ys))

abbrev pub or_else : Option (List ChainRule) → Option (List ChainRule) → Option (List ChainRule)
or_else None o = o
or_else (Some rules) o = Some rules

-- an entry, where there are rules for it
abbrev pub entry_at : ChainName → Option (List ChainRule) → Entries
entry_at name None = []
entry_at name (Some rules) = (name, rules) ∷ []

pub last-entry : (k q : ChainName) (x o : Option (List ChainRule)) → last (entry_at k x) q o ≡ cond (is q k) (or_else x o) o
last-entry k q None o = sym (cond_both (is q k) o)
last-entry k q (Some rules) o = refl

none_below : (q : List ℕ) (es : List Branch) → T (below_all (slice_cmp nat_cmp) q es) → find (slice_cmp nat_cmp) q es ≡ None
none_below q [] h = refl
none_below q (e ∷ es) h = ap (λ r. cond (is_eq r) (Some e.1) (find (slice_cmp nat_cmp) q es)) (less _ (first _ _ h)) ∙ none_below q es (second _ _ h)

-- a key that is the first one is no later one
gone : (c : List ℕ) (b : Branch) (bs : List Branch) → T (is_sorted (slice_cmp nat_cmp) (b ∷ bs)) → c ≡ b.0 → find (slice_cmp nat_cmp) c bs ≡ None
gone c b bs h e = ap (λ k. find (slice_cmp nat_cmp) k bs) e ∙ none_below b.0 bs (first _ _ h)

-- what holds of the branch that is found, if there is one
abbrev pub holds_at : (Branch → Bool) → List ℕ → Option (List (List ℕ)) → Bool
holds_at h c None = false
holds_at h c (Some names) = h (c, names)

-- the rules for the branch that is found, or else these
abbrev pub given : (Branch → Option (List ChainRule)) → List ℕ → Option (List (List ℕ)) → Option (List ChainRule) → Option (List ChainRule)
given g c None o = o
given g c (Some names) o = or_else (g (c, names)) o

-- entries and names of branches, where a byte tells a name
module _ (name : List ℕ → ChainName) (same : (c k : List ℕ) → is (name c) (name k) ≡ is c k) where
  abbrev pub lines : (Branch → Option (List ChainRule)) → List Branch → Entries
  lines g bs = flat_map (λ b. entry_at (name b.0) (g b)) bs

  pub last-lines : (g : Branch → Option (List ChainRule)) (bs : List Branch) → T (is_sorted (slice_cmp nat_cmp) bs) → (c : List ℕ) (o : Option (List ChainRule)) → last (lines g bs) (name c) o ≡ given g c (find (slice_cmp nat_cmp) c bs) o
  last-lines g [] h c o = refl
  last-lines g (b ∷ bs) h c o =
      let rest = find (slice_cmp nat_cmp) c bs in
      last-append (entry_at (name b.0) (g b)) (lines g bs) (name c) o
      ∙ ap (last (lines g bs) (name c)) (last-entry (name b.0) (name c) (g b) o ∙ ap (λ t. cond t (or_else (g b) o) o) (same c b.0))
      ∙ last-lines g bs (second _ _ h) c (cond (is c b.0) (or_else (g b) o) o)
      ∙ elim (slice_cmp nat_cmp c b.0) as (λ r. slice_cmp nat_cmp c b.0 ≡ r → given g c rest (cond (is_eq r) (or_else (g b) o) o) ≡ given g c (cond (is_eq r) (Some b.1) rest) o) [
        | Less ↦ λ p. refl
        | Equal ↦ λ p. ap (λ f. given g c f (or_else (g b) o)) (gone c b bs h (bytes_exact c b.0 p)) ∙ ap (λ k. or_else (g (k, b.1)) o) (sym (bytes_exact c b.0 p))
        | Greater ↦ λ p. refl
      ] refl

  pub past-lines : (g : Branch → Option (List ChainRule)) (bs : List Branch) (q : ChainName) (o : Option (List ChainRule)) → ((c : List ℕ) → is q (name c) ≡ false) → last (lines g bs) q o ≡ o
  past-lines g [] q o other = refl
  past-lines g (b ∷ bs) q o other =
      last-append (entry_at (name b.0) (g b)) (lines g bs) q o
      ∙ ap (last (lines g bs) q) (last-entry (name b.0) q (g b) o ∙ ap (λ t. cond t (or_else (g b) o) o) (other b.0))
      ∙ past-lines g bs q o other

  abbrev pub names_where : (Branch → Bool) → List Branch → List ChainName
  names_where h bs = flat_map (λ b. cond (h b) (name b.0 ∷ []) []) bs

  one_among : (q : ChainName) (t : Bool) (k : ChainName) (rest : List ChainName) → is_among q (cond t (k ∷ []) [] ++ rest) ≡ ((t && is q k) || is_among q rest)
  one_among q true k rest = refl
  one_among q false k rest = refl

  both_false : (t : Bool) → (t && false) ≡ false
  both_false true = refl
  both_false false = refl

  both_true : (t : Bool) → ((t && true) || false) ≡ t
  both_true true = refl
  both_true false = refl

  pub among-names : (h : Branch → Bool) (bs : List Branch) → T (is_sorted (slice_cmp nat_cmp) bs) → (c : List ℕ) → is_among (name c) (names_where h bs) ≡ holds_at h c (find (slice_cmp nat_cmp) c bs)
  among-names h [] s c = refl
  among-names h (b ∷ bs) s c =
      let rest = find (slice_cmp nat_cmp) c bs in
      one_among (name c) (h b) (name b.0) (names_where h bs)
      ∙ ap (λ t. (h b && t) || is_among (name c) (names_where h bs)) (same c b.0)
      ∙ ap (λ t. (h b && is c b.0) || t) (among-names h bs (second _ _ s) c)
      ∙ elim (slice_cmp nat_cmp c b.0) as (λ r. slice_cmp nat_cmp c b.0 ≡ r → ((h b && is_eq r) || holds_at h c rest) ≡ holds_at h c (cond (is_eq r) (Some b.1) rest)) [
        | Less ↦ λ p. ap (λ t. t || holds_at h c rest) (both_false (h b))
        | Equal ↦ λ p. ap (λ f. (h b && true) || holds_at h c f) (gone c b bs s (bytes_exact c b.0 p)) ∙ both_true (h b) ∙ ap (λ k. h (k, b.1)) (sym (bytes_exact c b.0 p))
        | Greater ↦ λ p. ap (λ t. t || holds_at h c rest) (both_false (h b))
      ] refl

  pub none-among : (h : Branch → Bool) (bs : List Branch) (q : ChainName) → ((c : List ℕ) → is q (name c) ≡ false) → is_among q (names_where h bs) ≡ false
  none-among h [] q other = refl
  none-among h (b ∷ bs) q other =
      one_among q (h b) (name b.0) (names_where h bs)
      ∙ ap (λ t. (h b && t) || is_among q (names_where h bs)) (other b.0)
      ∙ ap (λ t. t || is_among q (names_where h bs)) (both_false (h b)) ∙ none-among h bs q other
