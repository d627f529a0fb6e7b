-- What the passes over the rows come to together.
use Rattle.std.proofs.Common.{◌≡◌, ◌<◌, ◌^◌, inl, inr, ℕ, Bool, List, map, length, Option, Some, None, Ok, Err, refl, sym, ap, ◌∙◌, subst}
use Rattle.std.specs.List.{AllByRecursion}
use Rattle.std.proofs.lemmas.List.{length-map}
use Rattle.fx_base.specs.Extended.{extended}
use Rattle.fx_model.specs.Tables.{Tables}
use Rattle.fx_model.specs.Writing.{CanBeWritten}
use Rattle.fx_found.specs.declared.row.Row.{Row}
use Rattle.fx_found.specs.declared.row.Part.TheVariants.{Sets}
use Rattle.fx_found.specs.declared.found.FoundFault.{FoundFault}
use Rattle.fx_found.specs.Faults.{IsFoundFault}
use Rattle.fx_found.specs.Order.{first_bad, is_whole, placed_by, placed, declared_by}
use Rattle.fx_found.specs.RuleFaults.{first_fault}
use Rattle.fx_found.specs.ReadRows.{IsReadRow}
use Rattle.fx_found.specs.Rows.{row_of}
use Rattle.fx_found.specs.Headers.{AreDistinct}
use Rattle.fx_found.specs.Found.{headers_of, writes_of, no_tables, declared, tables_in, foreign_rows, found_with, judged, found_of}
use Rattle.fx_found.proofs.Written.{chains_to}
use Rattle.fx_found.proofs.RowReadings.{rows_read}
use Rattle.fx_found.proofs.Declaring.{are_headers, chains_writable}

-- rows that stand as they may have no bad one among them
none_bad : (first : Option ℕ) (whole : Bool) (count : ℕ) → placed_by first whole count ≡ Ok tt → first ≡ None
none_bad None whole count e = refl
none_bad (Some n) whole count e = cc

-- of rows that are passed as a slice, into tables that are empty
module _ (t : Tables) (rows slice : List Row) (empty : t ≡ no_tables) (is : slice ≡ rows) where
  placed_alike : placed no_tables rows ≡ placed t slice
  placed_alike = λ i. placed (sym empty i) (sym is i)

  declared_alike : (now : Tables) → now ≡ declared_by t slice → declared rows ≡ now
  declared_alike now grown = (λ i. declared_by (sym empty i) (sym is i)) ∙ sym grown

module _ (texts : List (List ℕ)) (rows : List Row) (read : rows ≡ map row_of texts) where
  pub few_rows : length texts < 2 ^ 32 → length rows < 2 ^ 32
  few_rows few = subst (λ (n : ℕ). n < 2 ^ 32) (sym (ap length read ∙ length-map texts row_of)) few

  pub rows_fit : AllByRecursion IsReadRow rows
  rows_fit = subst (AllByRecursion IsReadRow) (sym read) (rows_read texts)

  pub found_stopped : (told : FoundFault) → placed no_tables rows ≡ Err told → found_of texts ≡ Err told
  unfolding found_of
  found_stopped told e =
      ap (λ (rs : List Row). found_with (tables_in rs) (judged (placed no_tables rs) (first_fault 0 (declared rs) rs) (Ok (foreign_rows texts)))) (sym read)
      ∙ ap (λ p. found_with (tables_in rows) (judged p (first_fault 0 (declared rows) rows) (Ok (foreign_rows texts)))) e

  module _ (stands : placed no_tables rows ≡ Ok tt) where
    pub found_faulty : (told : FoundFault) → first_fault 0 (declared rows) rows ≡ Some told → found_of texts ≡ Err told
    unfolding found_of
    found_faulty told e =
        ap (λ (rs : List Row). found_with (tables_in rs) (judged (placed no_tables rs) (first_fault 0 (declared rs) rs) (Ok (foreign_rows texts)))) (sym read)
        ∙ (λ i. found_with (tables_in rows) (judged (stands i) (e i) (Ok (foreign_rows texts))))

    pub found_all : first_fault 0 (declared rows) rows ≡ None → found_of texts ≡ Ok (record { tables = tables_in rows; foreign = foreign_rows texts })
    unfolding found_of
    found_all e =
        ap (λ (rs : List Row). found_with (tables_in rs) (judged (placed no_tables rs) (first_fault 0 (declared rs) rs) (Ok (foreign_rows texts)))) (sym read)
        ∙ (λ i. found_with (tables_in rows) (judged (stands i) (e i) (Ok (foreign_rows texts))))

    pub distinct_headers : AreDistinct (headers_of rows)
    distinct_headers = (are_headers 0 Sets no_tables rows (none_bad (first_bad 0 Sets no_tables rows) (is_whole rows) (length rows) stands)).distinct

  pub all_writable : first_fault 0 (declared rows) rows ≡ None → CanBeWritten (declared rows).sets (declared rows).chains (writes_of rows)
  all_writable e = chains_writable (declared rows) rows rows_fit e

  -- rows that don't stand as they may give the fault
  pub found_misplaced : (t : Tables) (slice : List Row) → t ≡ no_tables → slice ≡ rows → (told : FoundFault) → IsFoundFault (placed t slice) told → IsFoundFault (found_of texts) told
  found_misplaced t slice empty is told (inl memory) = inl memory
  found_misplaced t slice empty is told (inr stopped) = inr (found_stopped told (placed_alike t rows slice empty is ∙ stopped))

  -- where they stand as they may, by the tables that have what they declare
  module _ (t now : Tables) (slice later : List Row) (empty : t ≡ no_tables) (is : slice ≡ rows) (same : later ≡ rows) (stood : placed t slice ≡ Ok tt) (grown : now ≡ declared_by t slice) where
    stands : placed no_tables rows ≡ Ok tt
    stands = placed_alike t rows slice empty is ∙ stood

    fault_alike : first_fault 0 (declared rows) rows ≡ first_fault 0 now later
    fault_alike = λ i. first_fault 0 (declared_alike t rows slice empty is now grown i) (sym same i)

    pub filled_faulty : (told : FoundFault) → first_fault 0 now later ≡ Some told → found_of texts ≡ Err told
    filled_faulty told e = found_faulty stands told (fault_alike ∙ e)

    pub filled_distinct : AreDistinct (headers_of rows)
    filled_distinct = distinct_headers stands

    pub filled_writable : first_fault 0 now later ≡ None → CanBeWritten now.sets now.chains (writes_of rows)
    filled_writable e =
        subst (λ (s : Tables). CanBeWritten s.sets s.chains (writes_of rows)) (declared_alike t rows slice empty is now grown) (all_writable (fault_alike ∙ e))

    pub filled_all : first_fault 0 now later ≡ None → found_of texts ≡ Ok (record { tables = chains_to now (extended now.chains (writes_of rows)); foreign = foreign_rows texts })
    filled_all e =
        found_all stands (fault_alike ∙ e)
        ∙ ap (λ (s : Tables). Ok (record { tables = chains_to s (extended s.chains (writes_of rows)); foreign = foreign_rows texts })) (declared_alike t rows slice empty is now grown)
