-- The operations that lead tables of rows to those of a view: what they name, and the rows of others.
use Rattle.std.proofs.Common.{◌≡◌, true, false, ℕ, List, map, Ok, is_some, sym, ap, ◌∙◌, subst}
use Rattle.std.specs.List.{AllByRecursion}
use Rattle.std.specs.FinMap as maps
use Rattle.std.specs.Str.{bytes_eq}
use Rattle.std.proofs.lemmas.Bool.{false_from_ne_true, false≢true}
use Rattle.fx_base.specs.Same.{same_bytes}
use Rattle.fx_base.proofs.Found.{each}
use Rattle.fx_model.specs.declared.view.View.{View}
use Rattle.fx_model.specs.Tables.{ChainName, forward}
use Rattle.fx_model.specs.ViewTables.{tables_of}
use Rattle.fx_laws.proofs.TablesAt.{first_at}
use Rattle.fx_found.specs.declared.found.Found.{Found}
use Rattle.fx_found.specs.Rows.{row_of}
use Rattle.fx_found.specs.Found.{no_tables, declared, found_of}
use Rattle.fx_reconcile.specs.Operations.{operations}
use Rattle.fx_found_laws.specs.OwnNames.{AreOwnSets, names_own_set_or_chain, AllNameOwn}
use Rattle.fx_found_laws.specs.OthersRows.{is_row_of, names_taken, AllLeaveRows, AllLeaveNames}
use Rattle.fx_found_laws.proofs.FoundNames.{found_from, found_own}
use Rattle.fx_found_laws.proofs.ViewNames.{view_own}
use Rattle.fx_found_laws.proofs.OperationNames.{operations_hold, operations_own}
use Rattle.fx_found_laws.proofs.OthersLemmas.{IsOthers, all_good, all_others, row_left, TakesOwnWord, names_left, set_word, chain_word}

module _ (texts : List (List ℕ)) (found : Found) (is : found_of texts ≡ Ok found) where
  others : AllByRecursion IsOthers found.foreign
  others =
      let came = found_from texts found is in
      subst (AllByRecursion IsOthers) came.rows (all_others texts (all_good no_tables (declared (map row_of texts)) (map row_of texts) came.unit came.stood came.none))

  module _ (v : View) where
    -- the first chain is in the goal, so it is never deleted
    not_first : (name : ChainName) → maps.contains_key (tables_of v).chains name ≡ false → bytes_eq name forward ≡ false
    not_first name gone =
        false_from_ne_true (bytes_eq name forward) (λ same.
        false≢true (sym gone ∙ ap (maps.contains_key (tables_of v).chains) (same_bytes name forward same) ∙ ap is_some (first_at v)))

    take_own : AllByRecursion TakesOwnWord (operations found.tables (tables_of v))
    take_own =
        let own = found_own texts found is in
        operations_hold TakesOwnWord found.tables (tables_of v) (record {
          create = λ q there. tt;
          add = λ q x there. tt;
          write = λ q there. tt;
          delete = λ q there gone. chain_word q (own.chains q there) (not_first q gone);
          remove = λ q x there. tt;
          destroy = λ q there. set_word q (own.sets q there);
        })

    pub leave_names : AllLeaveNames found.foreign (operations found.tables (tables_of v))
    leave_names =
        each TakesOwnWord (λ op. AllByRecursion (λ text. names_taken op text ≡ false) found.foreign)
        (λ op own. each IsOthers (λ text. names_taken op text ≡ false) (names_left op own) found.foreign others)
        (operations found.tables (tables_of v)) take_own

    module _ (sets : AreOwnSets v.sets) where
      pub name_own : AllNameOwn (operations found.tables (tables_of v))
      name_own = operations_own found.tables (tables_of v) (found_own texts found is) (view_own v sets)

      pub leave_rows : AllLeaveRows found.foreign (operations found.tables (tables_of v))
      leave_rows =
          each (λ op. names_own_set_or_chain op ≡ true) (λ op. AllByRecursion (λ text. is_row_of op text ≡ false) found.foreign)
          (λ op own. each IsOthers (λ text. is_row_of op text ≡ false) (λ text theirs. row_left op own text theirs.other) found.foreign others)
          (operations found.tables (tables_of v)) name_own
