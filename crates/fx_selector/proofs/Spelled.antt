-- What a text spells is a tree, and not a deep one.
use Rattle.std.proofs.Common.{◌≡◌, ℕ, zero, suc, ◌+◌, ◌*◌, ◌<◌, ◌≤◌, Bool, true, false, cond, not, ◌&&◌, ◌||◌, leb, eqb, nat_eq, ◌⊎◌, inl, inr, List, [], ◌∷◌, length, refl, sym, ap, subst, ◌∙◌, arith}
use Rattle.std.proofs.lemmas.Bool.{eqb-true}
use Rattle.std.specs.List.{list_any}
use Rattle.fx_selector.specs.Phrase.{Each, Then, Mapped, Either, Nothing, not_key, is_quote, is_text, Mark, Word, Led, Pick, Series, not_blank}
use Rattle.fx_selector.specs.Tree.{Tree, all, global, has, each, some, many, together, set_of, height, heights, IsKey, IsString, AreStrings, IsSet, IsTree, AreTrees}
use Rattle.fx_selector.specs.Language.{same_bytes, all_word, global_word, has_word, String, Set, Test, Call, Atom, And, Or, Not, SelectorText, and_ends}
use Rattle.fx_selector.proofs.Sound.{set-set_of}

-- strings: a string that holds `"` stood in `'`
other_quote : (x y z : Bool) → (x && not y) ≡ true → z ≡ false → (x && not z) ≡ true
other_quote true y z e f = ap not f
other_quote false y z e f = e

either_false : (x y : Bool) → (x || y) ≡ false → (x ≡ false) × (y ≡ false)
either_false true y e = cc
either_false false y e = (refl, e)

without_double : (q : ℕ) (v : List ℕ) → Each (is_text q) v → list_any (λ c. nat_eq c 34) v ≡ false → Each (is_text 34) v
unfolding is_text
without_double q [] h e = tt
without_double q (c ∷ cs) h e = let p = either_false (eqb c 34) (list_any (λ c. nat_eq c 34) cs) e in
    (other_quote (leb 32 c && not (eqb c 127)) (eqb c q) (eqb c 34) h.0 p.0, without_double q cs h.1 p.1)

no_quote : (x y : Bool) → (x && not y) ≡ true → y ≡ false
no_quote true true e = cc
no_quote true false e = refl
no_quote false y e = cc

pub no_double : (v : List ℕ) → Each (is_text 34) v → list_any (λ c. nat_eq c 34) v ≡ false
unfolding is_text
no_double [] h = refl
no_double (c ∷ cs) h = ap (λ b. b || list_any (λ c. nat_eq c 34) cs) (no_quote (leb 32 c && not (eqb c 127)) (eqb c 34) h.0) ∙ no_double cs h.1

one_quote : (q : ℕ) → is_quote q ≡ true → (q ≡ 34) ⊎ (q ≡ 39)
unfolding is_quote
one_quote q e = by (eqb q 34) (eqb q 39) refl refl e
  where
    by : (a b : Bool) → eqb q 34 ≡ a → eqb q 39 ≡ b → (a || b) ≡ true → (q ≡ 34) ⊎ (q ≡ 39)
    by true b f g h = inl (eqb-true q 34 f)
    by false true f g h = inr (eqb-true q 39 g)
    by false false f g h = cc

pub string_is : (q : ℕ) (v : List ℕ) → is_quote q ≡ true → Each (is_text q) v → IsString v
string_is q v e h = by (list_any (λ c. nat_eq c 34) v) refl (one_quote q e)
  where
    by : (b : Bool) → list_any (λ c. nat_eq c 34) v ≡ b → (q ≡ 34) ⊎ (q ≡ 39) → Each (is_text (cond b 39 34)) v
    by false f p = without_double q v h f
    by true f (inr p) = subst (λ x. Each (is_text x) v) p h
    by true f (inl p) = (let z : true ≡ false = sym f ∙ no_double v (subst (λ x. Each (is_text x) v) p h) in absurd (cc))

pub string_said : (text v : List ℕ) → String text v → IsString v
string_said text v h = string_is h.said v h.first.1 h.second.1

-- each of a series
pub series_said : {A : Type 0} (P : List A → Type 0) (Q : A → Type 0) (stops : ℕ → Bool) (G : List ℕ → A → Type 0) (sep : List ℕ) → ((a : A) → Q a → P (a ∷ [])) → ((a : A) (rest : List A) → Q a → P rest → P (a ∷ rest)) → ((text : List ℕ) (a : A) → G text a → Q a) → (n : ℕ) (text : List ℕ) (vs : List A) → Series stops G sep n text vs → P vs
series_said P Q stops G sep one further said zero text vs (inl h) = subst P (sym h.2) (one h.0 (said text h.0 h.1))
series_said P Q stops G sep one further said zero text vs (inr h) = absurd h.second
series_said P Q stops G sep one further said (suc n) text vs (inl h) = subst P (sym h.2) (one h.0 (said text h.0 h.1))
series_said P Q stops G sep one further said (suc n) text vs (inr h) =
    subst P (sym h.second.2) (further h.said h.second.0 (said h.prefix h.said h.first) (series_said P Q stops G sep one further said n h.second.1.back h.second.0 h.second.1.second))

pub set_said : (n : ℕ) (text : List ℕ) (vs : List (List ℕ)) → Set n text vs → IsSet vs
set_said n text vs h = by h.back vs h.second
  where
    by : (back : List ℕ) (vs : List (List ℕ)) → Either (Mapped (λ _. []) (Mark (125 ∷ []))) (Then (λ c. not_blank c && not (eqb c 44)) (Series not_blank String (44 ∷ []) n) (λ vs. Mapped (λ _. set_of vs) (Mark (125 ∷ [])))) back vs → IsSet vs
    by back vs (inl m) = subst IsSet (sym m.2) (set-set_of [] tt)
    by back vs (inr m) = subst IsSet (sym m.second.2) (set-set_of m.said (series_said AreStrings IsString not_blank String (44 ∷ []) (λ a q. (q, tt)) (λ a rest q p. (q, p)) string_said n m.prefix m.said m.first))

-- a tree of at most so many levels
abbrev pub Low : ℕ → Tree → Type 0
Low m t = IsTree t × (height t ≤ m)

pub test_said : (n : ℕ) (k text : List ℕ) (t : Tree) → IsKey k → Test n k text t → Low 1 t
test_said n k text t h (inl w) = subst (Low 1) (sym w.second.2) ((h, string_said w.back w.second.0 w.second.1), omega arith)
test_said n k text t h (inr (inl w)) = subst (Low 1) (sym w.second.2) ((h, string_said w.back w.second.0 w.second.1), omega arith)
test_said n k text t h (inr (inr (inl w))) = let m = w.second.5 in subst (Low 1) (sym m.2) ((h, set_said n w.second.1 m.0 m.1), omega arith)
test_said n k text t h (inr (inr (inr (inl w)))) = let m = w.second.5.second.5 in subst (Low 1) (sym m.2) ((h, set_said n w.second.5.second.1 m.0 m.1), omega arith)
test_said n k text t h (inr (inr (inr (inr (inl w))))) = let m = w.second.5 in subst (Low 1) (sym m.2) ((h, string_said w.second.1 m.0 m.1), omega arith)
test_said n k text t h (inr (inr (inr (inr (inr (inl w)))))) = let m = w.second.5.second.5 in subst (Low 1) (sym m.2) ((h, string_said w.second.5.second.1 m.0 m.1), omega arith)
test_said n k text t h (inr (inr (inr (inr (inr (inr w)))))) = let m = w.second.5.second.5 in subst (Low 1) (sym m.2) ((h, string_said w.second.5.second.1 m.0 m.1), omega arith)

pub word_said : (limit : ℕ) (text w : List ℕ) → Word limit text w → IsKey w
word_said limit text w h = subst IsKey (sym h.3) (h.0, h.1)

pick_said : {A : Type 0} (P : A → Type 0) (b : Bool) (G H : List ℕ → A → Type 0) → ((text : List ℕ) (v : A) → G text v → P v) → ((text : List ℕ) (v : A) → H text v → P v) → (text : List ℕ) (v : A) → Pick b G H text v → P v
pick_said P true G H g h text v w = g text v w
pick_said P false G H g h text v w = h text v w

abbrev Bare : Tree → List ℕ → Tree → Type 0
Bare u = Then not_blank (Mark (40 ∷ [])) (λ _. Mapped (λ _. u) (Mark (41 ∷ [])))

bare_said : (u : Tree) → Low 1 u → (text : List ℕ) (t : Tree) → Bare u text t → Low 1 t
bare_said u low text t h = subst (Low 1) (sym h.second.2) low

abbrev HasKey : ℕ → List ℕ → Tree → Type 0
HasKey limit = Then not_blank (Mark (40 ∷ [])) (λ _. Then not_key (Word limit) (λ k. Led (Mapped (λ _. has k) (Mark (41 ∷ [])))))

has_said : (limit : ℕ) (text : List ℕ) (t : Tree) → HasKey limit text t → Low 1 t
has_said limit text t h = subst (Low 1) (sym h.second.second.5.2) (word_said limit h.second.prefix h.second.said h.second.first, omega arith)

pub call_said : (limit : ℕ) (w text : List ℕ) (t : Tree) → Call limit w text t → Low 1 t
call_said limit w = pick_said (Low 1) (same_bytes w all_word) (Bare all) _ (bare_said all (tt, omega arith))
    (pick_said (Low 1) (same_bytes w global_word) (Bare global) _ (bare_said global (tt, omega arith))
    (pick_said (Low 1) (same_bytes w has_word) (HasKey limit) Nothing (has_said limit) (λ text t h. absurd h)))

pub atom_said : (limit n : ℕ) (text : List ℕ) (t : Tree) → Atom limit n text t → Low 1 t
atom_said limit n text t h = by h.second.1 h.second.5
  where
    by : (back : List ℕ) → Either (Call limit h.said) (Test n h.said) back t → Low 1 t
    by back (inl c) = call_said limit h.said back t c
    by back (inr c) = test_said n h.said back t (word_said limit h.prefix h.said h.first) c

lower : (m k : ℕ) → m ≤ k → (t : Tree) → Low m t → Low k t
lower m k l t h = (h.0, omega arith)

-- operands of at most so many levels, one at least
abbrev pub AllLow : ℕ → List Tree → Type 0
AllLow m ts = AreTrees (many ts) × (heights (many ts) ≤ m) × (0 < length ts)

each_said : (m : ℕ) (ts : List Tree) → AllLow m ts → Low (m + 1) (together each ts)
each_said m [] h = absurd (omega arith)
each_said m (t ∷ []) h = (h.0.0, omega arith)
each_said m (t ∷ u ∷ us) h = ((h.0, omega arith), omega arith)

some_said : (m : ℕ) (ts : List Tree) → AllLow m ts → Low (m + 1) (together some ts)
some_said m [] h = absurd (omega arith)
some_said m (t ∷ []) h = (h.0.0, omega arith)
some_said m (t ∷ u ∷ us) h = ((h.0, omega arith), omega arith)

module _ (m n : ℕ) (G : List ℕ → Tree → Type 0) (low : (text : List ℕ) (t : Tree) → G text t → Low m t) where
  all_low : (stops : ℕ → Bool) (sep text : List ℕ) (ts : List Tree) → Series stops G sep n text ts → AllLow m ts
  all_low stops sep = series_said (AllLow m) (Low m) stops G sep (λ t q. ((q.0, tt), omega arith, omega arith)) (λ t ts q p. ((q.0, p.0), omega arith, omega arith)) low n

  pub and_said : (text : List ℕ) (t : Tree) → And G n text t → Low (m + 1) t
  and_said text t h = subst (Low (m + 1)) (sym h.2) (each_said m h.0 (all_low not_blank (38 ∷ 38 ∷ []) text h.0 h.1))

module _ (m n : ℕ) (G : List ℕ → Tree → Type 0) (low : (text : List ℕ) (t : Tree) → G text t → Low m t) where
  pub or_said : (text : List ℕ) (t : Tree) → Or G n text t → Low (m + 1 + 1) t
  or_said text t h = subst (Low (m + 1 + 1)) (sym h.2) (some_said (m + 1) h.0 (all_low (m + 1) n (And G n) (and_said m n G low) and_ends (124 ∷ 124 ∷ []) text h.0 h.1))

-- each `!` is one level, and each group two
pub not_said : (limit n d : ℕ) (text : List ℕ) (t : Tree) → Not limit n d text t → Low (2 * d + 1) t
not_said limit n zero text t (inl h) = absurd h
not_said limit n zero text t (inr (inl h)) = absurd h
not_said limit n zero text t (inr (inr h)) = atom_said limit n text t h
not_said limit n (suc d) text t (inl h) =
    let inner : Low (2 * d + 1) h.second.0 = not_said limit n d h.back h.second.0 h.second.1 in
    subst (Low (2 * suc d + 1)) (sym h.second.2) (inner.0, omega arith)
not_said limit n (suc d) text t (inr (inl h)) =
    let inner : Low (2 * d + 1 + 1 + 1) h.second.said = or_said (2 * d + 1) n (Not limit n d) (not_said limit n d) h.second.prefix h.second.said h.second.first in
    subst (Low (2 * suc d + 1)) (sym h.second.second.2) (inner.0, omega arith)
not_said limit n (suc d) text t (inr (inr h)) = let a : Low 1 t = atom_said limit n text t h in (a.0, omega arith)

pub text_said : (limit n depth : ℕ) (text : List ℕ) (t : Tree) → SelectorText limit n depth text t → Low (2 * depth + 3) t
text_said limit n depth text t (inl h) = subst (Low (2 * depth + 3)) (sym h.1) (tt, omega arith)
text_said limit n depth text t (inr h) = let o : Low (2 * depth + 1 + 1 + 1) t = or_said (2 * depth + 1) n (Not limit n depth) (not_said limit n depth) h.1 t h.5 in (o.0, omega arith)
