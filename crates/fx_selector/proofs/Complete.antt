-- A whole text is read exactly.
use Rattle.std.proofs.Common.{◌≡◌, ℕ, ◌<◌, true, inl, inr, List, [], ◌∷◌, ◌++◌, refl, sym, ap, subst, ◌∙◌, append_assoc, append-nil}
use Rattle.fx_selector.specs.Phrase.{Ends, Starts, Each, is_blank, not_blank}
use Rattle.fx_selector.specs.Reading.{Res, Got, Stop, skip}
use Rattle.fx_selector.specs.Language.{Or, Not, SelectorText, or_ends}
use Rattle.fx_selector.specs.Tree.{Tree, all}
use Rattle.fx_selector.specs.Reader.{or_of, not_of, at_end, from_start, parsed}
use Rattle.fx_selector.proofs.Exact.{Filled, Opens, Outcome, Reads, ends_after}
use Rattle.fx_selector.proofs.Marks.{skip_blanks, Skips, skips}
use Rattle.fx_selector.proofs.Language.{not_reads, or_reads_of}

abbrev pub IsAnswered : (List ℕ → Tree → Type 0) → (List ℕ → Res Tree) → List ℕ → Res Tree → Type 0
IsAnswered G r text (Got t rest) = (rest ≡ []) × G text t
IsAnswered G r text (Stop why rest) = (taken : List ℕ) × (text ≡ taken ++ rest) × Opens G taken × ((c : ℕ) (m : List ℕ) → rest ≡ c ∷ m → (other : List ℕ) → r (taken ++ c ∷ other) ≡ Stop why (c ∷ other))

module _ (limit : ℕ) (pos : 0 < limit) (n depth : ℕ) where
  abbrev pub O : List ℕ → Tree → Type 0
  O = Or (Not limit n depth) n

  abbrev pub o : List ℕ → Res Tree
  o = or_of (not_of limit n depth) n

  pub o_reads : Reads O or_ends o
  o_reads = or_reads_of limit pos n depth (not_reads limit pos n depth)

  abbrev pub W : List ℕ → Tree → Type 0
  W = SelectorText limit n depth

  abbrev pub whole : List ℕ → Res Tree
  whole = parsed limit n depth

  pub from_filled : (p rest : List ℕ) → Filled p → from_start o (p ++ rest) ≡ at_end (o (p ++ rest))
  from_filled [] rest f = absurd f
  from_filled (c ∷ cs) rest f = refl

  pub whole_complete : (text : List ℕ) (t : Tree) → W text t → whole text ≡ Got t []
  whole_complete text t (inl h) = ap (from_start o) (ap skip (sym (append-nil text)) ∙ skip_blanks text [] h.0 tt) ∙ ap (λ x. Got x []) (sym h.1)
  whole_complete text t (inr h) =
      let e : h.1 ++ [] ≡ h.1 = append-nil h.1 in
      ap whole h.3
      ∙ (ap (from_start o) (skip_blanks h.0 h.1 h.2 (subst (Ends not_blank) (append-nil h.1) (ends_after not_blank h.1 [] h.4)))
      ∙ (ap (from_start o) (sym e)
      ∙ (from_filled h.1 [] (o_reads.filled h.1 t h.5)
      ∙ ap at_end (o_reads.complete h.1 [] t h.5 tt))))

  -- a text of the language begins with blanks and these bytes
  pub opens_led : (b q : List ℕ) → Each is_blank b → Ends not_blank q → (Filled q → Opens O q) → Opens W (b ++ q)
  opens_led b [] h e f = ([], all, inl (subst (Each is_blank) (sym (append-nil (b ++ [])) ∙ refl) (subst (Each is_blank) (sym (append-nil b)) h), refl))
  opens_led b (c ∷ cs) h e f = let w = f tt in (w.0, w.1, inr (b, c ∷ cs ++ w.0, h, append_assoc b (c ∷ cs) w.0, e, w.2))

  pub same_first : (q : List ℕ) (c : ℕ) (m other : List ℕ) → Ends not_blank (q ++ c ∷ m) → Ends not_blank (q ++ c ∷ other)
  same_first [] c m other h = h
  same_first (d ∷ ds) c m other h = h

  pub from_head : (q : List ℕ) (c : ℕ) (other : List ℕ) → from_start o (q ++ c ∷ other) ≡ at_end (o (q ++ c ∷ other))
  from_head [] c other = refl
  from_head (d ∷ ds) c other = refl

  pub prefix_ends : (q rest : List ℕ) → Ends not_blank (q ++ rest) → Ends not_blank q
  prefix_ends [] rest e = tt
  prefix_ends (c ∷ cs) rest e = e

  pub at_outcome : (text c_text : List ℕ) → Skips text c_text → (x : Res Tree) → Outcome O or_ends o c_text x → IsAnswered W whole text (at_end x)
  at_outcome text mid s (Got t []) f = (refl, inr (s.blank, f.taken, s.each, s.whole ∙ ap (λ x. s.blank ++ x) (f.whole ∙ append-nil f.taken), starts f.taken (o_reads.filled f.taken t f.phrase) (subst (Ends not_blank) f.whole s.ends), f.phrase))
    where
      starts : (q : List ℕ) → Filled q → Ends not_blank (q ++ []) → Starts not_blank q
      starts [] h e = absurd h
      starts (c ∷ cs) h e = e
  at_outcome text mid s (Got t (d ∷ ds)) f = (
    s.blank ++ f.taken,
    s.whole ∙ (ap (λ x. s.blank ++ x) f.whole ∙ sym (append_assoc s.blank f.taken (d ∷ ds))),
    opens_led s.blank f.taken s.each (prefix_ends f.taken (d ∷ ds) (subst (Ends not_blank) f.whole s.ends)) (λ _. ([], t, subst (λ x. O x t) (sym (append-nil f.taken)) f.phrase)),
    (λ c m e other.
        let same : d ≡ c = cc in
        ap whole (append_assoc s.blank f.taken (c ∷ other))
        ∙ (ap (from_start o) (skip_blanks s.blank (f.taken ++ c ∷ other) s.each (same_first f.taken c m other (subst (Ends not_blank) (f.whole ∙ ap (λ x. f.taken ++ x) e) s.ends)))
        ∙ (from_head f.taken c other
        ∙ ap at_end (o_reads.complete f.taken (c ∷ other) t f.phrase (subst (λ x. or_ends x ≡ true) same f.ends))))),
  )
  at_outcome text mid s (Stop why rest) f = (
    s.blank ++ f.taken,
    s.whole ∙ (ap (λ x. s.blank ++ x) f.whole ∙ sym (append_assoc s.blank f.taken rest)),
    opens_led s.blank f.taken s.each (prefix_ends f.taken rest (subst (Ends not_blank) f.whole s.ends)) f.opens,
    (λ c m e other.
        ap whole (append_assoc s.blank f.taken (c ∷ other))
        ∙ (ap (from_start o) (skip_blanks s.blank (f.taken ++ c ∷ other) s.each (same_first f.taken c m other (subst (Ends not_blank) (f.whole ∙ ap (λ x. f.taken ++ x) e) s.ends)))
        ∙ (from_head f.taken c other
        ∙ ap at_end (f.fixed c m e other)))),
  )

  pub from_outcome : (text mid : List ℕ) → Skips text mid → IsAnswered W whole text (from_start o mid)
  from_outcome text [] s = (refl, inl (subst (Each is_blank) (sym (s.whole ∙ append-nil s.blank)) s.each, refl))
  from_outcome text (c ∷ cs) s = at_outcome text (c ∷ cs) s (o (c ∷ cs)) (o_reads.outcome (c ∷ cs))

  pub whole_answers : (text : List ℕ) → IsAnswered W whole text (whole text)
  whole_answers text = from_outcome text (skip text) (skips text)

  -- a text says at most one tree
  pub one_tree : (text : List ℕ) (t u : Tree) → W text t → W text u → t ≡ u
  one_tree text t u h k = let e : Got t [] ≡ Got u [] = sym (whole_complete text t h) ∙ whole_complete text u k in cc
