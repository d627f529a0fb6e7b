-- Rules that are put into a map chain by chain, and taken out of it again.
use Rattle.std.proofs.Common.{◌≡◌, ◌≢◌, Bool, true, false, cond, List, [], ◌∷◌, ◌++◌, map, Option, Some, None, refl, sym, ap, ◌∙◌, subst, append-nil}
use Rattle.std.specs.Prelude.{unwrap_or, if◌then◌else◌}
use Rattle.std.specs.List.{AllByRecursion}
use Rattle.std.specs.Ordering.{nat_cmp, is_eq}
use Rattle.std.specs.Cmp.{unsigned_Decides}
use Rattle.std.specs.Cmp.Lexicographic.{slice_cmp}
use Rattle.std.specs.declared.cmp.Ordering.TheVariants.{Less, Equal, Greater}
use Rattle.std.specs.FinMap as maps
use Rattle.std.specs.Str.{bytes_eq}
use Rattle.std.proofs.lemmas.Bool.{false≢true}
use Rattle.std.proofs.lemmas.List.{map-append}
use Rattle.std.proofs.lemmas.Slice.Eq.{slice_eq-Decides}
use Rattle.fx_base.specs.Same.{same_bytes}
use Rattle.fx_base.proofs.AtKey.{get_insert, get_insert_same, get_remove, get_empty}
use Rattle.fx_base.proofs.KeyCases.{bytes_exact}
use Rattle.fx_model.specs.declared.chain.ChainRule.{ChainRule}
use Rattle.fx_model.specs.Tables.{ChainName, Chains}
use Rattle.fx_found.specs.Headers.{AreDistinct}

abbrev pub held_at : Chains → ChainName → List ChainRule
held_at m name = unwrap_or (maps.get m name) []

pub none_held : (m : Chains) → m ≡ maps.empty → (name : ChainName) → held_at m name ≡ []
none_held m is name = ap (λ (n : Chains). held_at n name) is ∙ ap (λ (o : Option (List ChainRule)). unwrap_or o []) (get_empty name)

-- ---- at another key

put_elsewhere : (m : Chains) (k : ChainName) (v : List ChainRule) (q : ChainName) → q ≢ k → maps.get (maps.insert m k v) q ≡ maps.get m q
put_elsewhere m k v q other =
    get_insert m k v q
    ∙ elim (slice_cmp nat_cmp q k) as (λ r. slice_cmp nat_cmp q k ≡ r → cond (is_eq r) (Some v) (maps.get m q) ≡ maps.get m q) [
      | Less ↦ λ p. refl
      | Equal ↦ λ p. absurd (other (bytes_exact q k p))
      | Greater ↦ λ p. refl
    ] refl

gone_elsewhere : (m : Chains) (k q : ChainName) → q ≢ k → maps.get (maps.remove m k) q ≡ maps.get m q
gone_elsewhere m k q other =
    get_remove m k q
    ∙ elim (slice_cmp nat_cmp q k) as (λ r. slice_cmp nat_cmp q k ≡ r → cond (is_eq r) None (maps.get m q) ≡ maps.get m q) [
      | Less ↦ λ p. refl
      | Equal ↦ λ p. absurd (other (bytes_exact q k p))
      | Greater ↦ λ p. refl
    ] refl

-- ---- a rule behind those that its chain has

pushed_by : (m : Chains) (chain name : ChainName) (r : ChainRule) (b : Bool) → bytes_eq chain name ≡ b → held_at (maps.insert (maps.remove m chain) chain (held_at m chain ++ r ∷ [])) name ≡ held_at m name ++ (if b then r ∷ [] else [])
pushed_by m chain name r true e =
    let same : chain ≡ name = same_bytes chain name e in
    ap (held_at (maps.insert (maps.remove m chain) chain (held_at m chain ++ r ∷ []))) (sym same)
    ∙ ap (λ (o : Option (List ChainRule)). unwrap_or o []) (get_insert_same (maps.remove m chain) chain (held_at m chain ++ r ∷ []))
    ∙ ap (λ (n : ChainName). held_at m n ++ r ∷ []) same
pushed_by m chain name r false e =
    let other : name ≢ chain = λ same. false≢true (sym e ∙ ap (bytes_eq chain) same ∙ (slice_eq-Decides unsigned_Decides chain chain _ refl).1 refl) in
    ap (λ (o : Option (List ChainRule)). unwrap_or o []) (put_elsewhere (maps.remove m chain) chain (held_at m chain ++ r ∷ []) name other ∙ gone_elsewhere m chain name other)
    ∙ sym (append-nil (held_at m name))

pub pushed : (m now : Chains) (chain : ChainName) (r : ChainRule) → now ≡ maps.insert (maps.remove m chain) chain (held_at m chain ++ r ∷ []) → (name : ChainName) → held_at now name ≡ held_at m name ++ (if bytes_eq chain name then r ∷ [] else [])
pushed m now chain r is name = ap (λ (n : Chains). held_at n name) is ∙ pushed_by m chain name r (bytes_eq chain name) refl

-- ---- chains that are taken one after another

-- those of the chains so far are taken, and those of the others are there
pub record IsTaking (all now : Chains) (writes : List (ChainName × List ChainRule)) (done left : List ChainName) : Type 0 where
  pub taken : writes ≡ map (λ name. (name, held_at all name)) done
  pub there : AllByRecursion (λ name. maps.get now name ≡ maps.get all name) left
  pub distinct : AreDistinct left

others_there : (all now : Chains) (name : ChainName) (left : List ChainName) → AllByRecursion (λ n. maps.get now n ≡ maps.get all n) left → AllByRecursion (λ other. other ≢ name) left → AllByRecursion (λ n. maps.get (maps.remove now name) n ≡ maps.get all n) left
others_there all now name [] there other = tt
others_there all now name (n ∷ left) there other =
    (gone_elsewhere now name n other.0 ∙ there.0, others_there all now name left there.1 other.1)

pub taking_more : (all now after : Chains) (writes more : List (ChainName × List ChainRule)) (done left rest : List ChainName) (name : ChainName) (held : List ChainRule) → left ≡ name ∷ rest → held ≡ held_at now name → after ≡ maps.remove now name → more ≡ writes ++ (name, held) ∷ [] → IsTaking all now writes done left → IsTaking all after more (done ++ name ∷ []) rest
taking_more all now after writes more done left rest name held is e gone longer taking =
    let here : IsTaking all now writes done (name ∷ rest) = subst (IsTaking all now writes done) is taking in
    let rules : held ≡ held_at all name = e ∙ ap (λ (o : Option (List ChainRule)). unwrap_or o []) here.there.0 in
    let further : IsTaking all (maps.remove now name) more (done ++ name ∷ []) rest = record {
      taken =
          longer
          ∙ ap (λ (w : List (ChainName × List ChainRule)). w ++ (name, held) ∷ []) here.taken
          ∙ ap (λ (h : List ChainRule). map (λ n. (n, held_at all n)) done ++ (name, h) ∷ []) rules
          ∙ sym (map-append (λ n. (n, held_at all n)) done (name ∷ []));
      there = others_there all now name rest here.there.1 here.distinct.0;
      distinct = here.distinct.1;
    } in
    subst (λ (m : Chains). IsTaking all m more (done ++ name ∷ []) rest) (sym gone) further
