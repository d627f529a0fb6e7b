-- Pieces that were written one behind the other.
use Rattle.std.proofs.Common.{◌≡◌, ℕ, List, ◌++◌, ap, ◌∙◌, append_assoc}

pub three_parts : (before first second now a b c : List ℕ) → first ≡ before ++ a → second ≡ first ++ b → now ≡ second ++ c → now ≡ before ++ (a ++ (b ++ c))
three_parts before first second now a b c e f g =
    g ∙ ap (λ l. l ++ c) (f ∙ ap (λ l. l ++ b) e) ∙ append_assoc (before ++ a) b c ∙ append_assoc before a (b ++ c)

pub five_parts : (before first second third fourth now a b c d e : List ℕ) → first ≡ before ++ a → second ≡ first ++ b → third ≡ second ++ c → fourth ≡ third ++ d → now ≡ fourth ++ e → now ≡ before ++ (a ++ (b ++ (c ++ (d ++ e))))
five_parts before first second third fourth now a b c d e is_first is_second is_third is_fourth is_now =
    three_parts second third fourth now c d e is_third is_fourth is_now
    ∙ ap (λ l. l ++ (c ++ (d ++ e))) (is_second ∙ ap (λ l. l ++ b) is_first)
    ∙ append_assoc (before ++ a) b (c ++ (d ++ e))
    ∙ append_assoc before a (b ++ (c ++ (d ++ e)))
