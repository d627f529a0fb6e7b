-- Texts that begin with others.
use Rattle.std.proofs.Common.{◌≡◌, ℕ, Bool, true, false, List, [], ◌∷◌, ◌++◌, length, take, drop, nat_eq, refl, sym, ap, ◌∙◌, append_assoc, take-append-drop}
use Rattle.std.specs.Prelude.{if◌then◌else◌, ◌==◌}
use Rattle.std.specs.List.{starts_with}
use Rattle.std.specs.Str.{bytes_eq}
use Rattle.std.proofs.lemmas.Bool.{and_parts}
use Rattle.fx_base.specs.Same.{same_bytes}
use Rattle.fx_found.specs.Pieces.{word}
use Rattle.fx_found_laws.specs.OthersRows.{has_name_behind}

pub begins_with : (needle text : List ℕ) → starts_with nat_eq text needle ≡ true → text ≡ needle ++ drop (length needle) text
begins_with needle text e =
    sym (take-append-drop (length needle) text) ∙ ap (λ (l : List ℕ). l ++ drop (length needle) text) (sym (same_bytes needle (take (length needle) text) e))

-- a text begins with its first word
word_first : (text : List ℕ) → (later : List ℕ) × (text ≡ word text ++ later)
word_first [] = ([], refl)
word_first (c ∷ cs) = by_first (c == 32) (word_first cs)
  where
    by_first : (b : Bool) → (later : List ℕ) × (cs ≡ word cs ++ later) → (later : List ℕ) × (c ∷ cs ≡ (if b then [] else c ∷ word cs) ++ later)
    by_first true more = (c ∷ cs, refl)
    by_first false more = (more.0, ap (λ (l : List ℕ). c ∷ l) more.1)

-- a row in which a name stands that begins so
pub row_begins : (front own name text : List ℕ) → starts_with nat_eq name own ≡ true → has_name_behind front name text ≡ true → (later : List ℕ) × (text ≡ front ++ (own ++ later))
row_begins front own name text begins is =
    let parts = and_parts (starts_with nat_eq text front) (bytes_eq (word (drop (length front) text)) name) is in
    let t : List ℕ = drop (length front) text in
    let more = word_first t in
    let tail : List ℕ = drop (length own) name in
    let named : word t ≡ own ++ tail = same_bytes (word t) name parts.1 ∙ begins_with own name begins in (
      tail ++ more.0,
      begins_with front text parts.0
          ∙ ap (λ (l : List ℕ). front ++ l) (more.1 ∙ ap (λ (l : List ℕ). l ++ more.0) named ∙ append_assoc own tail more.0),
    )
