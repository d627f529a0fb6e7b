-- A stop is the fault at its place.
use Rattle.std.proofs.Common.{◌≡◌, ℕ, ◌<◌, ◌+◌, true, false, List, [], ◌∷◌, ◌++◌, refl, sym, ap, subst, ◌∙◌, append_assoc, append-nil, arith}
use Rattle.fx_selector.specs.Reading.{Cause, unexpected, deep, long, spent, Res, Got, Stop}
use Rattle.fx_selector.specs.Language.{SelectorText}
use Rattle.fx_selector.specs.Tree.{Tree}
use Rattle.fx_selector.specs.Reader.{parsed}
use Rattle.fx_selector.specs.Places.{Spells, NestsWithin, KeysWithin, Begins, IsUnexpected, IsTooDeep, IsKeyTooLong}
use Rattle.fx_selector.proofs.Exact.{Opens}
use Rattle.fx_selector.proofs.Complete.{IsAnswered, whole_complete, whole_answers}
use Rattle.fx_selector.proofs.Grow.{Later, Agrees}
use Rattle.fx_selector.proofs.GrowAll.{whole_agrees}

-- why reading stops, as a fault that stands there
abbrev pub Stands : ℕ → ℕ → Cause → List ℕ → List ℕ → Type 0
Stands key depth unexpected = IsUnexpected key depth
Stands key depth deep = IsTooDeep key depth
Stands key depth long = IsKeyTooLong key depth
Stands key depth spent = λ taken rest. ⊥

pub both_got : (x : Res Tree) (t : Tree) (why : Cause) (rest : List ℕ) → x ≡ Got t [] → x ≡ Stop why rest → ⊥
both_got x t why rest e f = let z : Got t [] ≡ Stop why rest = sym e ∙ f in cc

pub join_tail : (taken : List ℕ) (c : ℕ) (more : List ℕ) → (taken ++ c ∷ []) ++ more ≡ taken ++ c ∷ more
join_tail taken c more = append_assoc taken (c ∷ []) more

module _ (key : ℕ) (pos : 0 < key) (n depth : ℕ) where
  -- a text with no limits is no text that stops unexpectedly
  pub none_spelled : (text rest : List ℕ) (t : Tree) → parsed key n depth text ≡ Stop unexpected rest → Spells text t → ⊥
  none_spelled text rest t e s =
      let up : Agrees true true (parsed key n depth text) (parsed (key + s.0 + 1) (n + s.1 + 1) (depth + s.2 + 1) text) = whole_agrees true true key (key + s.0 + 1) (omega arith) (omega arith) n (n + s.1 + 1) (omega arith) depth (depth + s.2 + 1) (omega arith) text in
      let up2 : Agrees true true (parsed s.0 s.1 s.2 text) (parsed (key + s.0 + 1) (n + s.1 + 1) (depth + s.2 + 1) text) = whole_agrees true true s.0 (key + s.0 + 1) (omega arith) (omega arith) s.1 (n + s.1 + 1) (omega arith) s.2 (depth + s.2 + 1) (omega arith) text in
      both_got (parsed (key + s.0 + 1) (n + s.1 + 1) (depth + s.2 + 1) text) t unexpected rest
      (subst (λ x. Agrees true true x (parsed (key + s.0 + 1) (n + s.1 + 1) (depth + s.2 + 1) text)) (whole_complete s.0 s.3 s.1 s.2 text t s.4) up2)
      (subst (λ x. Agrees true true x (parsed (key + s.0 + 1) (n + s.1 + 1) (depth + s.2 + 1) text)) e up)

  pub none_nested : (text rest : List ℕ) (t : Tree) → parsed key n depth text ≡ Stop deep rest → NestsWithin depth text t → ⊥
  none_nested text rest t e s =
      let up : Agrees true false (parsed key n depth text) (parsed (key + s.0 + 1) (n + s.1 + 1) depth text) = whole_agrees true false key (key + s.0 + 1) (omega arith) (omega arith) n (n + s.1 + 1) (omega arith) depth depth refl text in
      let up2 : Agrees true false (parsed s.0 s.1 depth text) (parsed (key + s.0 + 1) (n + s.1 + 1) depth text) = whole_agrees true false s.0 (key + s.0 + 1) (omega arith) (omega arith) s.1 (n + s.1 + 1) (omega arith) depth depth refl text in
      both_got (parsed (key + s.0 + 1) (n + s.1 + 1) depth text) t deep rest
      (subst (λ x. Agrees true false x (parsed (key + s.0 + 1) (n + s.1 + 1) depth text)) (whole_complete s.0 s.2 s.1 depth text t s.3) up2)
      (subst (λ x. Agrees true false x (parsed (key + s.0 + 1) (n + s.1 + 1) depth text)) e up)

  pub none_keyed : (text rest : List ℕ) (t : Tree) → parsed key n depth text ≡ Stop long rest → KeysWithin key text t → ⊥
  none_keyed text rest t e s =
      let up : Agrees false true (parsed key n depth text) (parsed key (n + s.0 + 1) (depth + s.1 + 1) text) = whole_agrees false true key key refl pos n (n + s.0 + 1) (omega arith) depth (depth + s.1 + 1) (omega arith) text in
      let up2 : Agrees false true (parsed key s.0 s.1 text) (parsed key (n + s.0 + 1) (depth + s.1 + 1) text) = whole_agrees false true key key refl pos s.0 (n + s.0 + 1) (omega arith) s.1 (depth + s.1 + 1) (omega arith) text in
      both_got (parsed key (n + s.0 + 1) (depth + s.1 + 1) text) t long rest
      (subst (λ x. Agrees false true x (parsed key (n + s.0 + 1) (depth + s.1 + 1) text)) (whole_complete key pos s.0 s.1 text t s.2) up2)
      (subst (λ x. Agrees false true x (parsed key (n + s.0 + 1) (depth + s.1 + 1) text)) e up)

  -- a text whose last byte larger limits read past begins a text within them
  pub past_end : (k m d : ℕ) (text : List ℕ) (c : ℕ) → (x : Res Tree) → Later x (c ∷ []) → IsAnswered (SelectorText k m d) (parsed k m d) text x → Opens (SelectorText k m d) text
  past_end k m d text c (Got t rest) l a = ([], t, subst (λ z. SelectorText k m d z t) (sym (append-nil text)) a.1)
  past_end k m d text c (Stop why []) l a = let w = a.2 in (w.0, w.1, subst (λ z. SelectorText k m d (z ++ w.0) w.1) (sym (a.1 ∙ append-nil a.0)) w.2)
  past_end k m d text c (Stop why (x ∷ xs)) l a = absurd (omega arith)

  -- with a larger depth alone, and with longer keys alone
  pub deeper : (text : List ℕ) → Agrees false true (parsed key n depth text) (parsed key (n + 1) (depth + 1) text)
  deeper text = whole_agrees false true key key refl pos n (n + 1) (omega arith) depth (depth + 1) (omega arith) text

  pub longer : (text : List ℕ) → Agrees true false (parsed key n depth text) (parsed (key + 1) (n + 1) depth text)
  longer text = whole_agrees true false key (key + 1) (omega arith) (omega arith) n (n + 1) (omega arith) depth depth refl text

  pub begun_keys : (text : List ℕ) (c : ℕ) → Later (parsed key (n + 1) (depth + 1) text) (c ∷ []) → Begins (KeysWithin key) text
  begun_keys text c l = let w = past_end key (n + 1) (depth + 1) text c (parsed key (n + 1) (depth + 1) text) l (whole_answers key pos (n + 1) (depth + 1) text) in (w.0, w.1, (n + 1, depth + 1, w.2))

  pub begun_nests : (text : List ℕ) (c : ℕ) → Later (parsed (key + 1) (n + 1) depth text) (c ∷ []) → Begins (NestsWithin depth) text
  begun_nests text c l = let w = past_end (key + 1) (n + 1) depth text c (parsed (key + 1) (n + 1) depth text) l (whole_answers (key + 1) (omega arith) (n + 1) depth text) in (w.0, w.1, (key + 1, n + 1, omega arith, w.2))

  pub some_rest : (x : Res Tree) (rest : List ℕ) → Later x rest → (c : ℕ) × (m : List ℕ) × (rest ≡ c ∷ m)
  some_rest (Got t r) [] l = absurd (omega arith)
  some_rest (Stop why r) [] l = absurd (omega arith)
  some_rest x (c ∷ m) l = (c, m, refl)

  pub Kept : List ℕ → List ℕ → Cause → Type 0
  Kept taken rest why = Opens (SelectorText key n depth) taken × ((c : ℕ) (m : List ℕ) → rest ≡ c ∷ m → (other : List ℕ) → parsed key n depth (taken ++ c ∷ other) ≡ Stop why (c ∷ other))

  pub fault : (text taken rest : List ℕ) (why : Cause) → text ≡ taken ++ rest → parsed key n depth text ≡ Stop why rest → Opens (SelectorText key n depth) taken → ((c : ℕ) (m : List ℕ) → rest ≡ c ∷ m → (other : List ℕ) → parsed key n depth (taken ++ c ∷ other) ≡ Stop why (c ∷ other)) → ((why ≡ spent) → ⊥) → Stands key depth why taken rest
  fault text taken rest unexpected w e o f h = (
    (o.0, o.1, (n, o.2)),
    (λ c m r b. none_spelled (taken ++ c ∷ b.0) (c ∷ b.0) b.1 (f c m r b.0) (subst (λ z. Spells z b.1) (join_tail taken c b.0) b.2)),
    (λ r t s. none_spelled text rest t e (subst (λ z. Spells z t) (sym (w ∙ (ap (λ z. taken ++ z) r ∙ append-nil taken))) s)),
  )
  fault text taken rest deep w e o f h =
      let l : Later (parsed key (n + 1) (depth + 1) text) rest = subst (λ x. Agrees false true x (parsed key (n + 1) (depth + 1) text)) e (deeper text) in
      let q = some_rest (parsed key (n + 1) (depth + 1) text) rest l in (
        (o.0, o.1, (n, o.2)),
        q.0,
        q.1,
        q.2,
        begun_keys (taken ++ q.0 ∷ []) q.0 (subst (λ x. Agrees false true x (parsed key (n + 1) (depth + 1) (taken ++ q.0 ∷ []))) (f q.0 q.1 q.2 []) (deeper (taken ++ q.0 ∷ []))),
        (λ b. none_nested (taken ++ q.0 ∷ b.0) (q.0 ∷ b.0) b.1 (f q.0 q.1 q.2 b.0) (subst (λ z. NestsWithin depth z b.1) (join_tail taken q.0 b.0) b.2)),
      )
  fault text taken rest long w e o f h =
      let l : Later (parsed (key + 1) (n + 1) depth text) rest = subst (λ x. Agrees true false x (parsed (key + 1) (n + 1) depth text)) e (longer text) in
      let q = some_rest (parsed (key + 1) (n + 1) depth text) rest l in (
        (o.0, o.1, (n, o.2)),
        q.0,
        q.1,
        q.2,
        begun_nests (taken ++ q.0 ∷ []) q.0 (subst (λ x. Agrees true false x (parsed (key + 1) (n + 1) depth (taken ++ q.0 ∷ []))) (f q.0 q.1 q.2 []) (longer (taken ++ q.0 ∷ []))),
        (λ b. none_keyed (taken ++ q.0 ∷ b.0) (q.0 ∷ b.0) b.1 (f q.0 q.1 q.2 b.0) (subst (λ z. KeysWithin key z b.1) (join_tail taken q.0 b.0) b.2)),
      )
  fault text taken rest spent w e o f h = absurd (h refl)
