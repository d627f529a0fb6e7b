-- What is promised of an edit that has all that differs between two trees.
use Rattle.std.proofs.Common.{ℕ, List, sym, subst}
use Rattle.fx_base.specs.Set as set
use Rattle.fx_model.specs.Tables.{ChainName}
use Rattle.fx_dispatch.specs.declared.edit.Edit.{Edit}
use Rattle.fx_dispatch.specs.declared.edit.Edit.TheVariants as edit
use Rattle.fx_dispatch.specs.declared.plan.Plan.{Plan}
use Rattle.fx_dispatch.specs.Edits.{writes_in, deletes_in, HasPlaces}
use Rattle.fx_dispatch.specs.Laid.{IsPlan, IsEdit}
use Rattle.fx_dispatch.specs.Plans.{Names, Writes, tree_of, Replaces, ChangesOnly, IsExact, AreWritable, AreDeletable}
use Rattle.fx_dispatch.proofs.Written.{writes_between, replaces}
use Rattle.fx_dispatch.proofs.Once.{changes_only}
use Rattle.fx_dispatch.proofs.Exact.{is_exact}
use Rattle.fx_dispatch.proofs.Writable.{are_writable}
use Rattle.fx_dispatch.proofs.Deletable.{are_deletable}

-- a plan is an edit
pub planned : (os ns : List (List ℕ)) (plan : Plan) → IsPlan os ns plan → IsEdit os ns (edit.Chains plan)
planned os ns plan is = record { writes_are = is.writes_are; deletes_are = is.deletes_are; places_are = tt }

module _ (old new : Names) (e : Edit) (is : IsEdit (set.items old) (set.items new) e) where
  abbrev writes : Writes
  writes = writes_in (tree_of old) e

  abbrev deletes : List ChainName
  deletes = deletes_in e

  abbrev between : Writes
  between = writes_between (set.items old) (set.items new)

  pub promised_places : HasPlaces (tree_of old) e
  promised_places = is.places_are

  pub promised_replaces : Replaces old new writes deletes
  promised_replaces =
      subst (λ (ws : Writes). Replaces old new ws deletes) (sym is.writes_are)
      (subst (λ (ds : List ChainName). Replaces old new between ds) (sym is.deletes_are) (replaces old new))

  pub promised_changes : ChangesOnly old new writes deletes
  promised_changes =
      subst (λ (ws : Writes). ChangesOnly old new ws deletes) (sym is.writes_are)
      (subst (λ (ds : List ChainName). ChangesOnly old new between ds) (sym is.deletes_are) (changes_only old new))

  pub promised_exact : IsExact old new writes deletes
  promised_exact =
      subst (λ (ws : Writes). IsExact old new ws deletes) (sym is.writes_are)
      (subst (λ (ds : List ChainName). IsExact old new between ds) (sym is.deletes_are) (is_exact old new))

  pub promised_writable : AreWritable old new writes
  promised_writable = subst (λ (ws : Writes). AreWritable old new ws) (sym is.writes_are) (are_writable old new)

  pub promised_deletable : AreDeletable old writes deletes
  promised_deletable =
      subst (λ (ws : Writes). AreDeletable old ws deletes) (sym is.writes_are)
      (subst (λ (ds : List ChainName). AreDeletable old between ds) (sym is.deletes_are) (are_deletable old new))
