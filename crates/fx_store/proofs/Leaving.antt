-- Which updates leave the resources as they are.
use Rattle.std.proofs.Common.{◌≡◌, Bool, true, false, not, [], ◌∷◌, Option, Some, None, is_some, refl, sym, ap, ◌∙◌, subst}
use Rattle.std.specs.Prelude.{◌↔◌, IsTrue}
use Rattle.fx_base.proofs.Cases.{absent_value, opposite}
use Rattle.fx_model.specs.declared.ids.Key.{Key}
use Rattle.fx_model.specs.declared.resources.Item.{Item}
use Rattle.fx_model.specs.declared.resources.Resources.{Resources}
use Rattle.fx_model.specs.declared.resources.Update.{Update}
use Rattle.fx_model.specs.declared.resources.Update.TheVariants.{InSync, Put, Delete}
use Rattle.fx_model.specs.Formed.{is_formed}
use Rattle.fx_model.specs.Resources.{after, after_put, after_delete}
use Rattle.fx_model.specs.Steps.{record_at}
use Rattle.fx_laws.proofs.Records.{same_or_other, record-put, record-delete, record-put-other, record-delete-other, framed-after, framed-delete, mark_stays-all, alike-in_sync}
use Rattle.fx_store.specs.Same.{is_record}
use Rattle.fx_store.proofs.SameRecords.{one_record, own_record}

-- the opposite of a test
pub turned : (a b : Bool) → a ≡ not b → b ≡ not a
turned a true e = ap not (sym e)
turned a false e = ap not (sym e)

none_there : (o : Option Item) → not (is_some o) ≡ true → o ≡ None
none_there o e = absent_value o (opposite (is_some o) e)

module _ (R : Resources) where
  -- ---- the mark that the resources are in sync

  mark_again : R.in_sync ≡ true → after R InSync ≡ R
  mark_again e = ap (λ b. record R { in_sync = b }) (sym e)

  mark_was : after R InSync ≡ R → R.in_sync ≡ true
  mark_was same = sym (ap (λ (S : Resources). S.in_sync) same)

  pub unchanged-mark : (u : Update) → u ≡ InSync → IsTrue R.in_sync ↔ (after R u ≡ R)
  unchanged-mark u is = (
    λ e. ap (after R) is ∙ mark_again e,
    λ same. mark_was (sym (ap (after R) is) ∙ same),
  )

  -- ---- puts

  module _ (k : Key) (x : Item) (formed : is_formed (Put k x) ≡ true) where
    put_again : record_at R k ≡ Some x → after_put R k x ≡ R
    put_again stands = alike-in_sync (after_put R k x) R (framed-after R (Put k x)) records (mark_stays-all R (Put k x ∷ []) refl)
      where
        records : (l : Key) → record_at (after_put R k x) l ≡ record_at R l
        records l =
            same_or_other l k _
            (λ e is. subst (λ (q : Key). record_at (after_put R k x) q ≡ record_at R q) (sym is) (record-put R k x formed ∙ sym stands))
            (λ e differ. record-put-other R k l x differ)

    put_was : after_put R k x ≡ R → record_at R k ≡ Some x
    put_was same = sym (ap (λ (S : Resources). record_at S k) same) ∙ record-put R k x formed

  pub unchanged-put : (u : Update) (k : Key) (x : Item) → u ≡ Put k x → is_formed u ≡ true → (b : Bool) → b ≡ is_record (record_at R k) x → IsTrue b ↔ (after R u ≡ R)
  unchanged-put u k x is formed b tells =
      let formed_put : is_formed (Put k x) ≡ true = ap is_formed (sym is) ∙ formed in (
        λ e. ap (after R) is ∙ put_again k x formed_put (one_record (record_at R k) x (sym tells ∙ e)),
        λ same. tells ∙ own_record (record_at R k) x (put_was k x formed_put (sym (ap (after R) is) ∙ same)),
      )

  -- ---- deletes

  delete_again : (k : Key) → record_at R k ≡ None → after_delete R k ≡ R
  delete_again k none = alike-in_sync (after_delete R k) R (framed-delete R k) records (mark_stays-all R (Delete k ∷ []) refl)
    where
      records : (l : Key) → record_at (after_delete R k) l ≡ record_at R l
      records l =
          same_or_other l k _
          (λ e is. subst (λ (q : Key). record_at (after_delete R k) q ≡ record_at R q) (sym is) (record-delete R k ∙ sym none))
          (λ e differ. record-delete-other R k l differ)

  delete_was : (k : Key) → after_delete R k ≡ R → record_at R k ≡ None
  delete_was k same = sym (ap (λ (S : Resources). record_at S k) same) ∙ record-delete R k

  pub unchanged-delete : (u : Update) (k : Key) → u ≡ Delete k → (b : Bool) → b ≡ not (is_some (record_at R k)) → IsTrue b ↔ (after R u ≡ R)
  unchanged-delete u k is b tells = (
    λ e. ap (after R) is ∙ delete_again k (none_there (record_at R k) (sym tells ∙ e)),
    λ same. tells ∙ ap (λ o. not (is_some o)) (delete_was k (sym (ap (after R) is) ∙ same)),
  )
