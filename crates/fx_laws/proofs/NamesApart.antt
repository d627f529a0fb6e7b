-- Names of chains of different kinds, keys or directions differ; and of which kind a name is.
use Rattle.std.proofs.Common.{◌≡◌, ℕ, Bool, true, false, cond, List, [], ◌∷◌, ◌++◌, Option, Some, None, refl, sym, ap, ◌∙◌, subst, eq-eqb}
use Rattle.std.specs.Prelude.{nat_eq}
use Rattle.fx_base.specs.Same.{same_numbers}
use Rattle.fx_names.specs.Names.{prefix_text}
use Rattle.fx_names.specs.declared.prefix.Prefix.TheVariants.{PolicyIn, PolicyOut, ProfileIn, ProfileOut, ToEndpoint, FromEndpoint}
use Rattle.fx_model.specs.Directions.{Direction, Ingress, Egress}
use Rattle.fx_model.specs.Tables.{ChainName, forward, policy_chain, profile_chain, endpoint_chain}
use Rattle.fx_laws.specs.DispatchNames.{is_dispatch}
use Rattle.fx_laws.proofs.EntryLookups.{is, is_same}

-- ---- one kind, one direction: names are one where their keys are

pub policy_same : (d : Direction) (k l : List ℕ) → is (policy_chain d k) (policy_chain d l) ≡ is k l
policy_same Ingress k l = refl
policy_same Egress k l = refl

pub profile_same : (d : Direction) (k l : List ℕ) → is (profile_chain d k) (profile_chain d l) ≡ is k l
profile_same Ingress k l = refl
profile_same Egress k l = refl

pub endpoint_same : (d : Direction) (k l : List ℕ) → is (endpoint_chain d k) (endpoint_chain d l) ≡ is k l
endpoint_same Ingress k l = refl
endpoint_same Egress k l = refl

-- ---- two kinds

pub policy_profile : (d e : Direction) (k l : List ℕ) → is (policy_chain d k) (profile_chain e l) ≡ false
policy_profile Ingress Ingress k l = refl
policy_profile Ingress Egress k l = refl
policy_profile Egress Ingress k l = refl
policy_profile Egress Egress k l = refl

pub policy_endpoint : (d e : Direction) (k l : List ℕ) → is (policy_chain d k) (endpoint_chain e l) ≡ false
policy_endpoint Ingress Ingress k l = refl
policy_endpoint Ingress Egress k l = refl
policy_endpoint Egress Ingress k l = refl
policy_endpoint Egress Egress k l = refl

pub profile_policy : (d e : Direction) (k l : List ℕ) → is (profile_chain d k) (policy_chain e l) ≡ false
profile_policy Ingress Ingress k l = refl
profile_policy Ingress Egress k l = refl
profile_policy Egress Ingress k l = refl
profile_policy Egress Egress k l = refl

pub profile_endpoint : (d e : Direction) (k l : List ℕ) → is (profile_chain d k) (endpoint_chain e l) ≡ false
profile_endpoint Ingress Ingress k l = refl
profile_endpoint Ingress Egress k l = refl
profile_endpoint Egress Ingress k l = refl
profile_endpoint Egress Egress k l = refl

pub endpoint_policy : (d e : Direction) (k l : List ℕ) → is (endpoint_chain d k) (policy_chain e l) ≡ false
endpoint_policy Ingress Ingress k l = refl
endpoint_policy Ingress Egress k l = refl
endpoint_policy Egress Ingress k l = refl
endpoint_policy Egress Egress k l = refl

pub endpoint_profile : (d e : Direction) (k l : List ℕ) → is (endpoint_chain d k) (profile_chain e l) ≡ false
endpoint_profile Ingress Ingress k l = refl
endpoint_profile Ingress Egress k l = refl
endpoint_profile Egress Ingress k l = refl
endpoint_profile Egress Egress k l = refl

-- ---- dispatch chains and the first one

pub policy_no_dispatch : (d : Direction) (k : List ℕ) → is_dispatch (policy_chain d k) ≡ false
policy_no_dispatch Ingress k = refl
policy_no_dispatch Egress k = refl

pub profile_no_dispatch : (d : Direction) (k : List ℕ) → is_dispatch (profile_chain d k) ≡ false
profile_no_dispatch Ingress k = refl
profile_no_dispatch Egress k = refl

pub endpoint_no_dispatch : (d : Direction) (k : List ℕ) → is_dispatch (endpoint_chain d k) ≡ false
endpoint_no_dispatch Ingress k = refl
endpoint_no_dispatch Egress k = refl

pub policy_not_first : (d : Direction) (k : List ℕ) → is (policy_chain d k) forward ≡ false
policy_not_first Ingress k = refl
policy_not_first Egress k = refl

pub profile_not_first : (d : Direction) (k : List ℕ) → is (profile_chain d k) forward ≡ false
profile_not_first Ingress k = refl
profile_not_first Egress k = refl

pub endpoint_not_first : (d : Direction) (k : List ℕ) → is (endpoint_chain d k) forward ≡ false
endpoint_not_first Ingress k = refl
endpoint_not_first Egress k = refl

-- a test that tells two names apart
pub told_apart : (test : ChainName → Bool) (q n : ChainName) (a b : Bool) → test q ≡ a → test n ≡ b → (a ≡ b → ⊥) → is q n ≡ false
told_apart test q n a b at_q at_n differ = by_test (is q n) refl
  where
    by_test : (c : Bool) → is q n ≡ c → c ≡ false
    by_test true e = absurd (differ (sym at_q ∙ ap test (is_same q n e) ∙ at_n))
    by_test false e = refl

pub no_true : false ≡ true → ⊥
no_true e = cc

pub no_false : true ≡ false → ⊥
no_false e = cc

-- ---- of which kind a name is

-- what stands behind a prefix
abbrev pub rest_of : List ℕ → List ℕ → Option (List ℕ)
rest_of [] q = Some q
rest_of (p ∷ ps) [] = None
rest_of (p ∷ ps) (x ∷ xs) = cond (nat_eq p x) (rest_of ps xs) None

rest_whole : (ps q k : List ℕ) → rest_of ps q ≡ Some k → q ≡ ps ++ k
rest_whole [] q k e = cc
rest_whole (p ∷ ps) [] k e = cc
rest_whole (p ∷ ps) (x ∷ xs) k e =
    elim (nat_eq p x) as (λ b. nat_eq p x ≡ b → cond b (rest_of ps xs) None ≡ Some k → x ∷ xs ≡ p ∷ (ps ++ k)) [
      | true ↦ λ t h. let rest = rest_whole ps xs k h in let same : p ≡ x = same_numbers p x t in λ i. sym same i ∷ rest i
      | false ↦ λ t h. cc
    ] refl e

rest_there : (ps k : List ℕ) → rest_of ps (ps ++ k) ≡ Some k
rest_there [] k = refl
rest_there (p ∷ ps) k = ap (λ b. cond b (rest_of ps (ps ++ k)) None) (eq-eqb p p refl) ∙ rest_there ps k

not_behind : (ps q k : List ℕ) → rest_of ps q ≡ None → is q (ps ++ k) ≡ false
not_behind ps q k none = by_test (is q (ps ++ k)) refl
  where
    both_ways : Some k ≡ None → ⊥
    both_ways e = cc

    by_test : (c : Bool) → is q (ps ++ k) ≡ c → c ≡ false
    by_test true e = absurd (both_ways (sym (rest_there ps k) ∙ ap (rest_of ps) (sym (is_same q (ps ++ k) e)) ∙ none))
    by_test false e = refl

-- a name of no kind that a view's chains have
pub record IsElse (q : ChainName) : Type 0 where
  pub policies : (d : Direction) (k : List ℕ) → is q (policy_chain d k) ≡ false
  pub profiles : (d : Direction) (k : List ℕ) → is q (profile_chain d k) ≡ false
  pub endpoints : (d : Direction) (k : List ℕ) → is q (endpoint_chain d k) ≡ false
  pub dispatch : is_dispatch q ≡ false
  pub first : is q forward ≡ false

pub record NameCases (P : ChainName → Type 0) : Type 0 where
  pub policies : (d : Direction) (k : List ℕ) → P (policy_chain d k)
  pub profiles : (d : Direction) (k : List ℕ) → P (profile_chain d k)
  pub endpoints : (d : Direction) (k : List ℕ) → P (endpoint_chain d k)
  pub dispatch : (q : ChainName) → is_dispatch q ≡ true → P q
  pub first : P forward
  pub «else» : (q : ChainName) → IsElse q → P q

module _ (P : ChainName → Type 0) (q : ChainName) where
  -- a name behind this prefix, or one that isn't
  behind : (ps : List ℕ) → ((k : List ℕ) → P (ps ++ k)) → (rest_of ps q ≡ None → P q) → P q
  behind ps there other =
      elim (rest_of ps q) as (λ o. rest_of ps q ≡ o → P q) [
        | Some k ↦ λ e. subst P (sym (rest_whole ps q k e)) (there k)
        | None ↦ λ e. other e
      ] refl

  tested : (b : Bool) → (b ≡ true → P q) → (b ≡ false → P q) → P q
  tested true here there = here refl
  tested false here there = there refl

pub by_name : (P : ChainName → Type 0) → NameCases P → (q : ChainName) → P q
by_name P cases q =
    behind P q (prefix_text PolicyIn) (cases.policies Ingress) (λ a.
    behind P q (prefix_text PolicyOut) (cases.policies Egress) (λ b.
    behind P q (prefix_text ProfileIn) (cases.profiles Ingress) (λ c.
    behind P q (prefix_text ProfileOut) (cases.profiles Egress) (λ d.
    behind P q (prefix_text ToEndpoint) (cases.endpoints Ingress) (λ e.
    behind P q (prefix_text FromEndpoint) (cases.endpoints Egress) (λ f.
    tested P q (is_dispatch q) (cases.dispatch q) (λ g.
    tested P q (is q forward) (λ h. subst P (sym (is_same q forward h)) cases.first) (λ h.
    cases.«else» q (record {
      policies = λ x k. elim x as (λ x. is q (policy_chain x k) ≡ false) [ Ingress ↦ not_behind (prefix_text PolicyIn) q k a | Egress ↦ not_behind (prefix_text PolicyOut) q k b ];
      profiles = λ x k. elim x as (λ x. is q (profile_chain x k) ≡ false) [ Ingress ↦ not_behind (prefix_text ProfileIn) q k c | Egress ↦ not_behind (prefix_text ProfileOut) q k d ];
      endpoints = λ x k. elim x as (λ x. is q (endpoint_chain x k) ≡ false) [ Ingress ↦ not_behind (prefix_text ToEndpoint) q k e | Egress ↦ not_behind (prefix_text FromEndpoint) q k f ];
      dispatch = g;
      first = h;
    })))))))))
