-- A reader that reads exactly a phrase, and stops exactly where no text of the phrase goes on.
use Rattle.std.proofs.Common.{◌≡◌, ℕ, Bool, List, [], ◌∷◌, ◌++◌, refl, sym, ap, subst, ◌∙◌, append_assoc, append-nil}
use Rattle.fx_selector.specs.Phrase.{Ends, Starts, Then}
use Rattle.fx_selector.specs.Reading.{Cause, Res, Got, Stop, bind}

abbrev pub Filled : List ℕ → Type 0
Filled [] = ⊥
Filled (c ∷ cs) = Unit {0}

-- some text of the phrase begins so
abbrev pub Opens : {A : Type 0} → (List ℕ → A → Type 0) → List ℕ → Type 0
Opens {A} G p = (more : List ℕ) × (v : A) × G (p ++ more) v

-- the answer Got v rest
pub record Finds {A : Type 0} (G : List ℕ → A → Type 0) (stops : ℕ → Bool) (text : List ℕ) (v : A) (rest : List ℕ) : Type 0 where
  pub taken : List ℕ
  pub whole : text ≡ taken ++ rest
  pub phrase : G taken v
  pub ends : Ends stops rest

-- the answer Stop why rest
pub record Halts {A : Type 0} (G : List ℕ → A → Type 0) (r : List ℕ → Res A) (text : List ℕ) (why : Cause) (rest : List ℕ) : Type 0 where
  pub taken : List ℕ
  pub whole : text ≡ taken ++ rest
  pub opens : Filled taken → Opens G taken
  pub fixed : (c : ℕ) (m : List ℕ) → rest ≡ c ∷ m → (other : List ℕ) → r (taken ++ c ∷ other) ≡ Stop why (c ∷ other)

abbrev pub Outcome : {A : Type 0} → (List ℕ → A → Type 0) → (ℕ → Bool) → (List ℕ → Res A) → List ℕ → Res A → Type 0
Outcome G stops r text (Got v rest) = Finds G stops text v rest
Outcome G stops r text (Stop why rest) = Halts G r text why rest

pub record Reads {A : Type 0} (G : List ℕ → A → Type 0) (stops : ℕ → Bool) (r : List ℕ → Res A) : Type 0 where
  pub complete : (p rest : List ℕ) (v : A) → G p v → Ends stops rest → r (p ++ rest) ≡ Got v rest
  pub outcome : (text : List ℕ) → Outcome G stops r text (r text)
  pub filled : (p : List ℕ) (v : A) → G p v → Filled p

pub ends_after : (stops : ℕ → Bool) (p rest : List ℕ) → Starts stops p → Ends stops (p ++ rest)
ends_after stops [] rest h = absurd h
ends_after stops (c ∷ cs) rest h = h

pub starts_of : (stops : ℕ → Bool) (p rest : List ℕ) → Filled p → Ends stops (p ++ rest) → Starts stops p
starts_of stops [] rest f h = absurd f
starts_of stops (c ∷ cs) rest f h = h

-- one reader and then another
module _ {A B : Type 0} (G : List ℕ → A → Type 0) (H : A → List ℕ → B → Type 0) (stops ends : ℕ → Bool) (r : List ℕ → Res A) (s : A → List ℕ → Res B) (R : Reads G stops r) (S : (a : A) → Reads (H a) ends (s a)) (some : (a : A) → (more : List ℕ) × (v : B) × Starts stops more × H a more v) where
  abbrev pub both : List ℕ → Res B
  both text = bind (r text) s

  pub both_complete : (p rest : List ℕ) (v : B) → Then stops G H p v → Ends ends rest → both (p ++ rest) ≡ Got v rest
  both_complete p rest v t e =
      let regrouped : p ++ rest ≡ t.prefix ++ (t.back ++ rest) = ap (λ x. x ++ rest) t.whole ∙ append_assoc t.prefix t.back rest in
      let one : r (t.prefix ++ (t.back ++ rest)) ≡ Got t.said (t.back ++ rest) = R.complete t.prefix (t.back ++ rest) t.said t.first (ends_after stops t.back rest t.apart) in
      ap both regrouped ∙ (ap (λ x. bind x s) one ∙ (S t.said).complete t.back rest v t.second e)

  pub opens_second : (p q : List ℕ) (a : A) (rest : List ℕ) → G p a → Ends stops (q ++ rest) → (Filled q → Opens (H a) q) → Opens (Then stops G H) (p ++ q)
  opens_second p [] a rest g e o =
      let w = some a in
      (w.0, w.1, record { prefix = p; back = w.0; said = a; whole = ap (λ x. x ++ w.0) (append-nil p); first = g; apart = w.2; second = w.3 })
  opens_second p (c ∷ cs) a rest g e o =
      let w = o tt in
      (w.0, w.1, record { prefix = p; back = c ∷ cs ++ w.0; said = a; whole = append_assoc p (c ∷ cs) w.0; first = g; apart = e; second = w.2 })

  pub second_outcome : (text : List ℕ) (a : A) (mid : List ℕ) → Finds G stops text a mid → (x : Res B) → Outcome (H a) ends (s a) mid x → Outcome (Then stops G H) ends both text x
  second_outcome text a mid f (Got v rest) o = record {
    taken = f.taken ++ o.taken;
    whole = f.whole ∙ (ap (λ x. f.taken ++ x) o.whole ∙ sym (append_assoc f.taken o.taken rest));
    phrase = record { prefix = f.taken; back = o.taken; said = a; whole = refl; first = f.phrase; apart = starts_of stops o.taken rest ((S a).filled o.taken v o.phrase) (subst (Ends stops) o.whole f.ends); second = o.phrase };
    ends = o.ends;
  }
  second_outcome text a mid f (Stop why rest) o = record {
    taken = f.taken ++ o.taken;
    whole = f.whole ∙ (ap (λ x. f.taken ++ x) o.whole ∙ sym (append_assoc f.taken o.taken rest));
    opens = λ _. opens_second f.taken o.taken a rest f.phrase (subst (Ends stops) o.whole f.ends) o.opens;
    fixed = λ c m e other.
        let same : Ends stops (o.taken ++ c ∷ other) = still o.taken c m other (subst (Ends stops) (o.whole ∙ ap (λ x. o.taken ++ x) e) f.ends) in
        ap both (append_assoc f.taken o.taken (c ∷ other))
        ∙ (ap (λ x. bind x s) (R.complete f.taken (o.taken ++ c ∷ other) a f.phrase same) ∙ o.fixed c m e other);
  }
    where
      still : (q : List ℕ) (c : ℕ) (m other : List ℕ) → Ends stops (q ++ c ∷ m) → Ends stops (q ++ c ∷ other)
      still [] c m other h = h
      still (d ∷ ds) c m other h = h

  pub first_outcome : (text : List ℕ) (x : Res A) → Outcome G stops r text x → Outcome (Then stops G H) ends both text (bind x s)
  first_outcome text (Got a mid) o = second_outcome text a mid o (s a mid) ((S a).outcome mid)
  first_outcome text (Stop why rest) o = record {
    taken = o.taken;
    whole = o.whole;
    opens = λ f. let w = o.opens f in let z = some w.1 in
        (w.0 ++ z.0, z.1, record { prefix = o.taken ++ w.0; back = z.0; said = w.1; whole = sym (append_assoc o.taken w.0 z.0); first = w.2; apart = z.2; second = z.3 });
    fixed = λ c m e other. ap (λ x. bind x s) (o.fixed c m e other);
  }

  pub filled_both : (p : List ℕ) (v : B) → Then stops G H p v → Filled p
  filled_both p v t = subst Filled (sym t.whole) (more_filled t.prefix t.back (R.filled t.prefix t.said t.first))
    where
      more_filled : (a b : List ℕ) → Filled a → Filled (a ++ b)
      more_filled [] b h = absurd h
      more_filled (c ∷ cs) b h = tt

  pub seq : Reads (Then stops G H) ends both
  seq = record { complete = both_complete; outcome = λ text. first_outcome text (r text) (R.outcome text); filled = filled_both }
