-- A list of ranges of ports that is half read.
use Rattle.std.proofs.Common.{◌≡◌, ◌<◌, ℕ, List, [], ◌∷◌, ◌++◌, length, Option, Some, None, refl, sym, ap, ◌∙◌, append-nil, append_assoc}
use Rattle.std.specs.Prelude.{option_map, option_and_then}
use Rattle.fx_base.specs.declared.net.PortRange.{PortRange}
use Rattle.fx_found.specs.Pieces.{piece, behind}
use Rattle.fx_found.specs.Values.{range_in, all_ranges, ranges_in}
use Rattle.fx_found.proofs.PieceLemmas.{pieces_of_some}

-- behind the ranges that were read
abbrev pub behind_ranges : List PortRange → Option (List PortRange) → Option (List PortRange)
behind_ranges first later = option_map (λ l. first ++ l) later

pub record IsHalfRead (first : List PortRange) (later text : List ℕ) : Type 0 where
  pub whole : behind_ranges first (ranges_in later) ≡ ranges_in text

joined_none : (o : Option (List PortRange)) → behind_ranges [] o ≡ o
joined_none None = refl
joined_none (Some l) = refl

pub half_begun : (text : List ℕ) → IsHalfRead [] text text
half_begun text = record { whole = joined_none (ranges_in text) }

one_more : (first : List PortRange) (r : PortRange) (o : Option (List PortRange)) → behind_ranges first (option_map (λ later. r ∷ later) o) ≡ behind_ranges (first ++ r ∷ []) o
one_more first r None = refl
one_more first r (Some l) = ap Some (sym (append_assoc first (r ∷ []) l))

pub half_further : (first : List PortRange) (later text more : List ℕ) (r : PortRange) → 0 < length later → range_in (piece 44 later) ≡ Some r → more ≡ behind 44 later → IsHalfRead first later text → IsHalfRead (first ++ r ∷ []) more text
half_further first later text more r some is rest half = record {
  whole =
      ap (λ (l : List ℕ). behind_ranges (first ++ r ∷ []) (ranges_in l)) rest
      ∙ sym (one_more first r (ranges_in (behind 44 later)))
      ∙ sym (ap (λ (ps : List (List ℕ)). behind_ranges first (all_ranges ps)) (pieces_of_some 44 later some) ∙ ap (λ (o : Option PortRange). behind_ranges first (option_and_then (λ one. option_map (λ l. one ∷ l) (ranges_in (behind 44 later))) o)) is)
      ∙ half.whole;
}

pub half_stopped : (first : List PortRange) (later text : List ℕ) → 0 < length later → range_in (piece 44 later) ≡ None → IsHalfRead first later text → ranges_in text ≡ None
half_stopped first later text some is half =
    sym half.whole
    ∙ ap (λ (ps : List (List ℕ)). behind_ranges first (all_ranges ps)) (pieces_of_some 44 later some)
    ∙ ap (λ (o : Option PortRange). behind_ranges first (option_and_then (λ one. option_map (λ l. one ∷ l) (ranges_in (behind 44 later))) o)) is

pub half_done : (first : List PortRange) (later text : List ℕ) → later ≡ [] → IsHalfRead first later text → ranges_in text ≡ Some first
half_done first later text none half =
    sym half.whole ∙ ap (λ (l : List ℕ). behind_ranges first (ranges_in l)) none ∙ ap Some (append-nil first)
