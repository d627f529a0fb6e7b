-- The digest that is the text itself.
use Rattle.std.proofs.Common.{◌≡◌, ℕ, ◌+◌, ◌-◌, ◌<◌, ◌≤◌, List, ◌++◌, length, take, drop, min, sym, ap, ◌∙◌, arith, ⊎_elim}
use Rattle.std.specs.Prelude.{replicate}
use Rattle.std.proofs.Math.Seq.{take-append-add}
use Rattle.std.proofs.lemmas.Bool.{cases_lt}
use Rattle.std.proofs.lemmas.List.{append-nil, take_all, take-append-le, take-replicate, drop-replicate}

filled_short : (text : List ℕ) → length text ≤ 32 → text ++ drop (length text) (replicate {A = ℕ} 32 0) ≡ take 32 (text ++ replicate 32 0)
filled_short text h =
    let m = 32 - length text in
    let whole : length text + m ≡ 32 = omega arith in
    ap (λ l. text ++ l) (drop-replicate (length text) 32 0 ∙ sym (take-replicate m 32 0 (omega arith)))
    ∙ sym (take-append-add text (replicate 32 0) m) ∙ ap (λ n. take n (text ++ replicate 32 0)) whole

pub filled : (text part : List ℕ) (n : ℕ) → n ≡ min (length text) 32 → part ≡ take n text → part ++ drop n (replicate {A = ℕ} 32 0) ≡ take 32 (text ++ replicate 32 0)
filled text part n e p =
    ⊎_elim
    (λ (h : length text < 32).
    let short : n ≡ length text = omega arith in
    ap (λ l. l ++ drop n (replicate 32 0)) (p ∙ take_all n text (omega arith)) ∙ ap (λ m. text ++ drop m (replicate 32 0)) short ∙ filled_short text (omega arith))
    (λ (h : 32 ≤ length text).
    let long : n ≡ 32 = omega arith in
    ap (λ l. l ++ drop n (replicate 32 0)) p ∙ ap (λ m. take m text ++ drop m (replicate 32 0)) long
    ∙ append-nil (take 32 text) ∙ sym (take-append-le 32 text (replicate 32 0) h))
    (cases_lt (length text) 32)
