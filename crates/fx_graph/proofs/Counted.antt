-- What is counted, as the texts of noted sets come into use and go out of it.
use Rattle.std.proofs.Common.{◌≡◌, ℕ, ◌+◌, cond, List, [], ◌∷◌, Option, Some, None, refl, sym, ◌∙◌, arith}
use Rattle.std.specs.FinMap as map
use Rattle.fx_label_index.specs.Canonicals.{Selectors}
use Rattle.fx_label_index.specs.Counts.{raised}
use Rattle.fx_label_index.specs.Matched.{text_eq}
use Rattle.fx_members.specs.UseText.{text_of}
use Rattle.fx_model.specs.Sinks.{Policies, Uses}
use Rattle.fx_model.specs.declared.set_use.SetUse.{SetUse}
use Rattle.fx_graph_rules.specs.Counting.{times, total, with_one, with_some, IsCounted}
use Rattle.fx_graph_rules.proofs.Counts.{raised_counted, lowered_counted}
use Rattle.fx_graph_view.specs.Noted.{Before, AreNoted, AreFormed}
use Rattle.fx_graph.specs.Fed.{raised_at, raised_by, lowered_at, lowered_by}
use Rattle.fx_graph.specs.Used.{weight_at, used_in}
use Rattle.fx_graph.proofs.Sums.{coming_among, leaving_among, balance}
use Rattle.fx_base.proofs.Cases.{none_more}

recounted : (s : Selectors) (n m : List ℕ → ℕ) → IsCounted s n → ((t : List ℕ) → n t ≡ m t) → IsCounted s m
recounted s n m h e = record { trees = h.trees; some = h.some; count = λ t. h.count t ∙ e t }

one_of_all : (c w n : ℕ) → c + (w + n) ≡ (w + c) + n
one_of_all c w n = omega arith

first_of_all : (w l n : ℕ) → (w + l) + n ≡ w + (l + n)
first_of_all w l n = omega arith

-- counts, with what one set has more, with what all that come have more, and with what all that leave have more
abbrev with_at : Option SetUse → (List ℕ → ℕ) → List ℕ → ℕ
with_at o n t = weight_at t o + n t

abbrev with_coming : Uses → List (List ℕ × Option SetUse) → (List ℕ → ℕ) → List ℕ → ℕ
with_coming uses es n t = coming_among uses t es + n t

abbrev with_leaving : List (List ℕ × Option SetUse) → (List ℕ → ℕ) → List ℕ → ℕ
with_leaving es n t = leaving_among t es + n t

-- ---- into use
module _ (uses : Uses) (formed : AreFormed uses) where
  raised_one : (name : List ℕ) (o : Option SetUse) → map.get uses name ≡ o → (s : Selectors) (n : List ℕ → ℕ) → IsCounted s n → IsCounted (raised_at s o) (with_at o n)
  raised_one name None found s n h = recounted s n (with_at None n) h (λ t. none_more (n t))
  raised_one name (Some u) found s n h =
      recounted (raised s (text_of u) u.selector) (with_one (text_of u) n) (with_at (Some u) n)
      (raised_counted s n h (text_of u) u.selector (formed name u found).selector refl) (λ t. refl)

  raised_all : (es : List (List ℕ × Option SetUse)) (s : Selectors) (n : List ℕ → ℕ) → IsCounted s n → IsCounted (raised_by uses es s) (with_coming uses es n)
  raised_all [] s n h = recounted s n (with_coming uses [] n) h (λ t. none_more (n t))
  raised_all (e ∷ es) s n h =
      recounted (raised_by uses es (raised_at s (map.get uses e.0))) (with_coming uses es (with_at (map.get uses e.0) n)) (with_coming uses (e ∷ es) n)
      (raised_all es (raised_at s (map.get uses e.0)) (with_at (map.get uses e.0) n) (raised_one e.0 (map.get uses e.0) refl s n h))
      (λ t. one_of_all (coming_among uses t es) (weight_at t (map.get uses e.0)) (n t))

-- ---- out of use
lowered_one : (o : Option SetUse) (s : Selectors) (n : List ℕ → ℕ) → IsCounted s (with_at o n) → IsCounted (lowered_at s o) n
lowered_one None s n h = recounted s (with_at None n) n h (λ t. sym (none_more (n t)))
lowered_one (Some u) s n h = lowered_counted s (with_at (Some u) n) n h (text_of u) (λ t. refl)

lowered_all : (es : List (List ℕ × Option SetUse)) (s : Selectors) (n : List ℕ → ℕ) → IsCounted s (with_leaving es n) → IsCounted (lowered_by es s) n
lowered_all [] s n h = recounted s (with_leaving [] n) n h (λ t. sym (none_more (n t)))
lowered_all (e ∷ es) s n h =
    lowered_all es (lowered_at s e.1) n (lowered_one e.1 s (with_leaving es n)
    (recounted s (with_leaving (e ∷ es) n) (with_at e.1 (with_leaving es n)) h (λ t. first_of_all (weight_at t e.1) (leaving_among t es) (n t))))

-- ---- both, beside policies and the text that a policy had before
beside : (c l k x y : ℕ) → c + x ≡ l + y → c + (k + x) ≡ l + (k + y)
beside c l k x y e = omega (arith, e)

beside_one : (c l k w x y : ℕ) → c + x ≡ l + y → c + (k + (w + x)) ≡ l + (k + (w + y))
beside_one c l k w x y e = omega (arith, e)

beside_some : (before : Option (List ℕ)) (t : List ℕ) (c l k : ℕ) (f g : List ℕ → ℕ) → c + f t ≡ l + g t → c + (k + with_some before f t) ≡ l + (k + with_some before g t)
beside_some None t c l k f g e = beside c l k (f t) (g t) e
beside_some (Some x) t c l k f g e = beside_one c l k (cond (text_eq t x) 1 0) (f t) (g t) e

module _ (notes : Before) (was uses : Uses) (noted : AreNoted notes was uses) (formed : AreFormed uses) (m : Policies) (before : Option (List ℕ)) where
  abbrev counted_then : List ℕ → ℕ
  counted_then = total m (with_some before (used_in was))

  abbrev counted_now : List ℕ → ℕ
  counted_now = total m (with_some before (used_in uses))

  pub fed_counted : (s : Selectors) → IsCounted s counted_then → IsCounted (lowered_by (map.entries notes) (raised_by uses (map.entries notes) s)) counted_now
  fed_counted s h = lowered_all (map.entries notes) (raised_by uses (map.entries notes) s) counted_now
      (recounted (raised_by uses (map.entries notes) s) (with_coming uses (map.entries notes) counted_then) (with_leaving (map.entries notes) counted_now)
      (raised_all uses formed (map.entries notes) s counted_then h)
      (λ t. beside_some before t (coming_among uses t (map.entries notes)) (leaving_among t (map.entries notes)) (times m t) (used_in was) (used_in uses) (balance notes was uses noted t)))
