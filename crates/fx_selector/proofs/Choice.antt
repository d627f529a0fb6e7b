-- Readers that choose, stop and rename.
use Rattle.std.proofs.Common.{◌≡◌, ℕ, Bool, true, false, cond, not, inl, inr, List, [], ◌∷◌, ◌++◌, refl, sym, ap, subst, ◌∙◌}
use Rattle.fx_selector.specs.Phrase.{Ends, Starts, Mapped, Either, Nothing}
use Rattle.fx_selector.specs.Reading.{Cause, Res, Got, Stop, bind, choose, mapped, stop}
use Rattle.fx_selector.proofs.Exact.{Filled, Outcome, Reads}

pub stops_all : {A : Type 0} (why : Cause) (ends : ℕ → Bool) → Reads {A = A} Nothing ends (stop why)
stops_all why ends = record {
  complete = λ p rest v h e. absurd h;
  outcome = λ text. record { taken = []; whole = refl; opens = λ f. absurd f; fixed = λ c m e other. refl };
  filled = λ p v h. absurd h;
}

module _ {A B : Type 0} (f : A → B) (G : List ℕ → A → Type 0) (ends : ℕ → Bool) (r : List ℕ → Res A) (R : Reads G ends r) where
  pub mapped_outcome : (text : List ℕ) (x : Res A) → Outcome G ends r text x → Outcome (Mapped f G) ends (mapped f r) text (bind x (λ a rest. Got (f a) rest))
  mapped_outcome text (Got a rest) o = record { taken = o.taken; whole = o.whole; phrase = (a, o.phrase, refl); ends = o.ends }
  mapped_outcome text (Stop why rest) o = record {
    taken = o.taken;
    whole = o.whole;
    opens = λ h. let w = o.opens h in (w.0, f w.1, (w.1, w.2, refl));
    fixed = λ c m e other. ap (λ x. bind x (λ a rest. Got (f a) rest)) (o.fixed c m e other);
  }

  pub map_reads : Reads (Mapped f G) ends (mapped f r)
  map_reads = record {
    complete = λ p rest v h e. ap (λ x. bind x (λ a rest. Got (f a) rest)) (R.complete p rest h.0 h.1 e) ∙ ap (λ x. Got x rest) (sym h.2);
    outcome = λ text. mapped_outcome text (r text) (R.outcome text);
    filled = λ p v h. R.filled p h.0 h.1;
  }

module _ {A : Type 0} (test : ℕ → Bool) (G H : List ℕ → A → Type 0) (ends : ℕ → Bool) (r s : List ℕ → Res A) (R : Reads G ends r) (S : Reads H ends s) (gs : (p : List ℕ) (v : A) → G p v → Starts test p) (hs : (p : List ℕ) (v : A) → H p v → Starts (λ c. not (test c)) p) where
  abbrev pub one_of : List ℕ → Res A
  one_of = choose test r s

  pub one_left : (p rest : List ℕ) → Starts test p → one_of (p ++ rest) ≡ r (p ++ rest)
  one_left [] rest h = absurd h
  one_left (c ∷ cs) rest h = ap (λ b. cond b (r (c ∷ cs ++ rest)) (s (c ∷ cs ++ rest))) h

  pub one_right : (p rest : List ℕ) → Starts (λ c. not (test c)) p → one_of (p ++ rest) ≡ s (p ++ rest)
  one_right [] rest h = absurd h
  one_right (c ∷ cs) rest h = ap (λ b. cond b (r (c ∷ cs ++ rest)) (s (c ∷ cs ++ rest))) (flip (test c) h)
    where
      flip : (b : Bool) → not b ≡ true → b ≡ false
      flip true e = cc
      flip false e = refl

  pub choice_complete : (p rest : List ℕ) (v : A) → Either G H p v → Ends ends rest → one_of (p ++ rest) ≡ Got v rest
  choice_complete p rest v (inl g) e = one_left p rest (gs p v g) ∙ R.complete p rest v g e
  choice_complete p rest v (inr h) e = one_right p rest (hs p v h) ∙ S.complete p rest v h e

  pub choice_filled : (p : List ℕ) (v : A) → Either G H p v → Filled p
  choice_filled p v (inl g) = R.filled p v g
  choice_filled p v (inr h) = S.filled p v h

  -- the branch that a text takes is taken by each text with the same first byte
  pub by_left : (c : ℕ) (cs : List ℕ) → test c ≡ true → (x : Res A) → Outcome G ends r (c ∷ cs) x → Outcome (Either G H) ends one_of (c ∷ cs) x
  by_left c cs t (Got v rest) o = record { taken = o.taken; whole = o.whole; phrase = inl o.phrase; ends = o.ends }
  by_left c cs t (Stop why rest) o = record {
    taken = o.taken;
    whole = o.whole;
    opens = λ f. let w = o.opens f in (w.0, w.1, inl w.2);
    fixed = λ d m e other. first_of_both o.taken d m other (o.whole ∙ ap (λ x. o.taken ++ x) e) ∙ o.fixed d m e other;
  }
    where
      first_of_both : (p : List ℕ) (d : ℕ) (m other : List ℕ) → c ∷ cs ≡ p ++ d ∷ m → one_of (p ++ d ∷ other) ≡ r (p ++ d ∷ other)
      first_of_both [] d m other e = one_left (d ∷ []) other (let k : c ≡ d = cc in subst (λ z. test z ≡ true) k t)
      first_of_both (q ∷ qs) d m other e = one_left (q ∷ qs) (d ∷ other) (let k : c ≡ q = cc in subst (λ z. test z ≡ true) k t)

  pub by_right : (c : ℕ) (cs : List ℕ) → not (test c) ≡ true → (x : Res A) → Outcome H ends s (c ∷ cs) x → Outcome (Either G H) ends one_of (c ∷ cs) x
  by_right c cs t (Got v rest) o = record { taken = o.taken; whole = o.whole; phrase = inr o.phrase; ends = o.ends }
  by_right c cs t (Stop why rest) o = record {
    taken = o.taken;
    whole = o.whole;
    opens = λ f. let w = o.opens f in (w.0, w.1, inr w.2);
    fixed = λ d m e other. first_of_both o.taken d m other (o.whole ∙ ap (λ x. o.taken ++ x) e) ∙ o.fixed d m e other;
  }
    where
      first_of_both : (p : List ℕ) (d : ℕ) (m other : List ℕ) → c ∷ cs ≡ p ++ d ∷ m → one_of (p ++ d ∷ other) ≡ s (p ++ d ∷ other)
      first_of_both [] d m other e = one_right (d ∷ []) other (let k : c ≡ d = cc in subst (λ z. not (test z) ≡ true) k t)
      first_of_both (q ∷ qs) d m other e = one_right (q ∷ qs) (d ∷ other) (let k : c ≡ q = cc in subst (λ z. not (test z) ≡ true) k t)

  pub by_none : (x : Res A) → Outcome H ends s [] x → Outcome (Either G H) ends one_of [] x
  by_none (Got v rest) o = record { taken = o.taken; whole = o.whole; phrase = inr o.phrase; ends = o.ends }
  by_none (Stop why rest) o = record {
    taken = o.taken;
    whole = o.whole;
    opens = λ f. let w = o.opens f in (w.0, w.1, inr w.2);
    fixed = λ c m e other. absurd (none o.taken c m (o.whole ∙ ap (λ x. o.taken ++ x) e));
  }
    where
      none : (p : List ℕ) (c : ℕ) (m : List ℕ) → [] ≡ p ++ c ∷ m → ⊥
      none [] c m e = cc
      none (d ∷ ds) c m e = cc

  pub choice_head : (c : ℕ) (cs : List ℕ) (b : Bool) → test c ≡ b → Outcome (Either G H) ends one_of (c ∷ cs) (cond b (r (c ∷ cs)) (s (c ∷ cs)))
  choice_head c cs true e = by_left c cs e (r (c ∷ cs)) (R.outcome (c ∷ cs))
  choice_head c cs false e = by_right c cs (ap not e) (s (c ∷ cs)) (S.outcome (c ∷ cs))

  pub choice_outcome : (text : List ℕ) → Outcome (Either G H) ends one_of text (one_of text)
  choice_outcome [] = by_none (s []) (S.outcome [])
  choice_outcome (c ∷ cs) = choice_head c cs (test c) refl

  pub choice : Reads (Either G H) ends one_of
  choice = record { complete = choice_complete; outcome = choice_outcome; filled = choice_filled }
