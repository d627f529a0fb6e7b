-- Four pieces that were written one behind the other.
use Rattle.std.proofs.Common.{◌≡◌, ℕ, List, ◌++◌, ap, ◌∙◌, append_assoc}

pub four_parts : (before first second third now a b c d : List ℕ) → first ≡ before ++ a → second ≡ first ++ b → third ≡ second ++ c → now ≡ third ++ d → now ≡ before ++ (a ++ (b ++ (c ++ d)))
four_parts before first second third now a b c d e f g h =
    h ∙ ap (λ l. l ++ d) (g ∙ ap (λ l. l ++ c) (f ∙ ap (λ l. l ++ b) e))
    ∙ append_assoc ((before ++ a) ++ b) c d
    ∙ append_assoc (before ++ a) b (c ++ d)
    ∙ append_assoc before a (b ++ (c ++ d))
