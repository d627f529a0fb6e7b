-- The readers of tokens are exact.
use Rattle.std.proofs.Common.{◌≡◌, ℕ, Bool, true, false, cond, not, eqb, List, [], ◌∷◌, ◌++◌, refl, sym, ap, subst, ◌∙◌, append-nil}
use Rattle.std.proofs.lemmas.Bool.{eqb-true, eq-eqb}
use Rattle.fx_selector.specs.Phrase.{Ends, Each, is_blank, not_blank, any_byte, Mark, Byte}
use Rattle.fx_selector.specs.Reading.{unexpected, Res, Got, Stop, skip, mark, byte}
use Rattle.fx_selector.proofs.Exact.{Filled, Opens, Outcome, Reads}

pub opposite : (b : Bool) → not b ≡ true → b ≡ false
opposite true e = cc
opposite false e = refl

-- past blanks
pub skip_blanks : (b rest : List ℕ) → Each is_blank b → Ends not_blank rest → skip (b ++ rest) ≡ rest
skip_blanks [] [] h e = refl
skip_blanks [] (c ∷ cs) h e = ap (λ x. cond x (skip cs) (c ∷ cs)) (opposite (is_blank c) e)
skip_blanks (c ∷ cs) rest h e = ap (λ x. cond x (skip (cs ++ rest)) (c ∷ cs ++ rest)) h.0 ∙ skip_blanks cs rest h.1 e

pub record Skips (text : List ℕ) (rest : List ℕ) : Type 0 where
  pub blank : List ℕ
  pub each : Each is_blank blank
  pub whole : text ≡ blank ++ rest
  pub ends : Ends not_blank rest

pub skips_step : (c : ℕ) (cs : List ℕ) → Skips cs (skip cs) → (b : Bool) → is_blank c ≡ b → Skips (c ∷ cs) (cond b (skip cs) (c ∷ cs))
skips_step c cs s true e = record { blank = c ∷ s.blank; each = (e, s.each); whole = ap (λ x. c ∷ x) s.whole; ends = s.ends }
skips_step c cs s false e = record { blank = []; each = tt; whole = refl; ends = ap not e }

pub skips : (text : List ℕ) → Skips text (skip text)
skips [] = record { blank = []; each = tt; whole = refl; ends = tt }
skips (c ∷ cs) = skips_step c cs (skips cs) (is_blank c) refl

-- a mark
pub mark_complete : (bytes p rest : List ℕ) (v : Unit {0}) → Mark bytes p v → Ends not_blank rest → mark bytes (p ++ rest) ≡ Got v rest
mark_complete [] p rest v h e = ap (λ x. Got v (skip (x ++ rest))) h.2 ∙ ap (Got v) (skip_blanks h.0 rest h.1 e)
mark_complete (b ∷ bs) p rest v h e =
    ap (λ x. mark (b ∷ bs) (x ++ rest)) h.2
    ∙ (ap (λ x. cond x (mark bs (bs ++ h.0 ++ rest)) (Stop unexpected (b ∷ bs ++ h.0 ++ rest))) (eq-eqb b b refl)
    ∙ mark_complete bs (bs ++ h.0) rest v (h.0, h.1, refl) e)

pub mark_more : (b : ℕ) (bs : List ℕ) (cs : List ℕ) (x : Res (Unit {0})) → Outcome (Mark bs) not_blank (mark bs) cs x → Outcome (Mark (b ∷ bs)) not_blank (mark (b ∷ bs)) (b ∷ cs) x
mark_more b bs cs (Got v rest) o = record { taken = b ∷ o.taken; whole = ap (λ x. b ∷ x) o.whole; phrase = (o.phrase.0, o.phrase.1, ap (λ x. b ∷ x) o.phrase.2); ends = o.ends }
mark_more b bs cs (Stop why rest) o = record {
  taken = b ∷ o.taken;
  whole = ap (λ x. b ∷ x) o.whole;
  opens = λ _. opened o.taken o.opens;
  fixed = λ c m e other. ap (λ x. cond x (mark bs (o.taken ++ c ∷ other)) (Stop unexpected (b ∷ o.taken ++ c ∷ other))) (eq-eqb b b refl) ∙ o.fixed c m e other;
}
  where
    opened : (p : List ℕ) → (Filled p → Opens (Mark bs) p) → Opens (Mark (b ∷ bs)) (b ∷ p)
    opened [] f = (bs, tt, ([], tt, ap (λ x. b ∷ x) (sym (append-nil bs))))
    opened (c ∷ cs) f = let w = f tt in (w.0, tt, (w.2.0, w.2.1, ap (λ x. b ∷ x) w.2.2))

pub mark_head : (b : ℕ) (bs : List ℕ) (c : ℕ) (cs : List ℕ) → Outcome (Mark bs) not_blank (mark bs) cs (mark bs cs) → (t : Bool) → eqb c b ≡ t → Outcome (Mark (b ∷ bs)) not_blank (mark (b ∷ bs)) (c ∷ cs) (cond t (mark bs cs) (Stop unexpected (c ∷ cs)))
mark_head b bs c cs o true e = let same : b ≡ c = sym (eqb-true c b e) in subst (λ x. Outcome (Mark (b ∷ bs)) not_blank (mark (b ∷ bs)) (x ∷ cs) (mark bs cs)) same (mark_more b bs cs (mark bs cs) o)
mark_head b bs c cs o false e = record {
  taken = [];
  whole = refl;
  opens = λ f. absurd f;
  fixed = λ d m h other. let same : c ≡ d = cc in ap (λ x. cond x (mark bs other) (Stop unexpected (d ∷ other))) (subst (λ x. eqb x b ≡ false) same e);
}

pub mark_outcome : (bytes text : List ℕ) → Outcome (Mark bytes) not_blank (mark bytes) text (mark bytes text)
mark_outcome [] text = let s = skips text in record { taken = s.blank; whole = s.whole; phrase = (s.blank, s.each, refl); ends = s.ends }
mark_outcome (b ∷ bs) [] = record { taken = []; whole = refl; opens = λ f. absurd f; fixed = λ c m e other. cc }
mark_outcome (b ∷ bs) (c ∷ cs) = mark_head b bs c cs (mark_outcome bs cs) (eqb c b) refl

pub mark_reads : (b : ℕ) (bs : List ℕ) → Reads (Mark (b ∷ bs)) not_blank (mark (b ∷ bs))
mark_reads b bs = record {
  complete = mark_complete (b ∷ bs);
  outcome = mark_outcome (b ∷ bs);
  filled = λ p v h. subst Filled (sym h.2) tt;
}

-- one byte
module _ (test : ℕ → Bool) where
  pub byte_complete : (p rest : List ℕ) (v : ℕ) → Byte test p v → Ends any_byte rest → byte test (p ++ rest) ≡ Got v rest
  byte_complete p rest v h e = ap (λ x. byte test (x ++ rest)) h.0 ∙ ap (λ x. cond x (Got v rest) (Stop unexpected (v ∷ rest))) h.1

  pub any_ends : (rest : List ℕ) → Ends any_byte rest
  any_ends [] = tt
  any_ends (c ∷ cs) = refl

  pub byte_head : (c : ℕ) (cs : List ℕ) (t : Bool) → test c ≡ t → Outcome (Byte test) any_byte (byte test) (c ∷ cs) (cond t (Got c cs) (Stop unexpected (c ∷ cs)))
  byte_head c cs true e = record { taken = c ∷ []; whole = refl; phrase = (refl, e); ends = any_ends cs }
  byte_head c cs false e = record {
    taken = [];
    whole = refl;
    opens = λ f. absurd f;
    fixed = λ d m h other. let same : c ≡ d = cc in ap (λ x. cond x (Got d other) (Stop unexpected (d ∷ other))) (subst (λ x. test x ≡ false) same e);
  }

  pub byte_outcome : (text : List ℕ) → Outcome (Byte test) any_byte (byte test) text (byte test text)
  byte_outcome [] = record { taken = []; whole = refl; opens = λ f. absurd f; fixed = λ c m e other. cc }
  byte_outcome (c ∷ cs) = byte_head c cs (test c) refl

  pub byte_reads : Reads (Byte test) any_byte (byte test)
  byte_reads = record { complete = byte_complete; outcome = byte_outcome; filled = λ p v h. subst Filled (sym h.0) tt }
