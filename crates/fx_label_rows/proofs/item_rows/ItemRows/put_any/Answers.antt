use Rattle.std.proofs.Common.{◌≡◌, ◌||◌, map, sym, ap, ◌∙◌, subst}
use Rattle.std.specs.List.{list_any}
use Rattle.std.specs.FinMap as maps
use Rattle.std.specs.Cmp.Lexicographic.{nat_list_cmp_total}
use Rattle.fx_base.specs.Set as set
use Rattle.fx_base.proofs.KeyCases.{bytes_exact}
use Rattle.fx_base.proofs.Walk.{IsRest, IsRest-start, IsRest-next}
use Rattle.fx_model.specs.declared.ids.ItemKey.{ItemKey}
use Rattle.fx_base.specs.Grouped.{has_key}
use Rattle.fx_label_rows.proofs.ItemLemmas.{row_next}
use Rattle.fx_label_rows.proofs.item_rows.ItemRows.put_any.Goals as goal

pub loop-more-init : goal.loop-more-init
loop-more-init c =
    let e = c.into_iter-more-iterator.ensures.into_iter_gives ∙ c.iter-more-items.ensures ∙ ap maps.entries c.self.view_is in
    record {
      rest = subst (λ es. IsRest c.args.self.now es) (sym e) (IsRest-start nat_list_cmp_total c.args.self.now);
      whole = λ i. ap (λ es. list_any (λ v. has_key (maps.get c.args.self.now v) i) (map (λ e. e.0) es) || set.contains c.args.items.now i) e;
    }

pub loop-more-preserved : goal.loop-more-preserved
loop-more-preserved c =
    let rest = subst (λ es. IsRest c.args.self.now es) c.in-Some.ensures.steps c.loop-more.invariant.rest in
    let whole = subst (λ es. (i : ItemKey) → (list_any (λ v. has_key (maps.get c.args.self.now v) i) (map (λ e. e.0) es) || set.contains c.loop-more.items i) ≡ (list_any (λ v. has_key (maps.get c.args.self.now v) i) (maps.keys c.args.self.now) || set.contains c.args.items.now i)) c.in-Some.ensures.steps c.loop-more.invariant.whole in
    record {
      rest = IsRest-next nat_list_cmp_total bytes_exact c.args.self.now _ _ rest;
      whole = λ i. row_next c.args.self.now _ _ c.loop-more.items c.put_all.new.items i _ rest (whole i) (c.in_ok-put_all.ensures i);
    }
