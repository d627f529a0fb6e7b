-- What the log of the scanner keeps as sets come into use and go out of it.
use Rattle.std.proofs.Common.{◌≡◌, ℕ, true, false, cond, List, Option, Some, None, is_some, refl, sym, ap, ◌∙◌, subst}
use Rattle.std.specs.declared.cmp.Ordering.TheVariants.{Less, Equal, Greater}
use Rattle.std.specs.Ordering.{nat_cmp, is_eq}
use Rattle.std.specs.Cmp.Lexicographic.{slice_cmp, nat_list_cmp_total}
use Rattle.std.specs.FinMap as map
use Rattle.fx_base.proofs.KeyCases.{bytes_exact}
use Rattle.fx_model.specs.Sinks.{Uses}
use Rattle.fx_model.specs.declared.set_use.SetUse.{SetUse}
use Rattle.fx_graph_view.specs.Kept.{IsKeptSince}
use Rattle.fx_graph_view.specs.Noted.{Before, IsFormed}
use Rattle.fx_graph_view.specs.declared.scan_log.Scanned.{Scanned}
use Rattle.fx_graph_view.proofs.NotedLemmas.{formed_more, formed_fewer, noted_before, noted_now}
use Rattle.fx_base.proofs.Cases.{absent_value}

module _ (start s : Scanned) (h : IsKeptSince start s) (name : List ℕ) where
  -- one that was noted before comes into use
  pub on_before : (uses : Uses) (u : SetUse) → is_some (map.get s.before name) ≡ true → uses ≡ map.insert s.uses name u → IsFormed name u → IsKeptSince start (record s { uses = uses })
  on_before uses u there put is = record {
    view = h.view;
    noted = noted_before s.before start.uses s.uses h.noted name uses (Some u) there (λ q. ap (λ m. map.get m q) put ∙ map.get-insert nat_list_cmp_total s.uses name u q);
    formed = formed_more s.uses uses name u h.formed is put;
  }

  -- one that wasn't noted, and wasn't used, comes into use
  pub on_now : (before : Before) (uses : Uses) (u : SetUse) → is_some (map.get s.before name) ≡ false → is_some (map.get s.uses name) ≡ false → before ≡ map.insert s.before name None → uses ≡ map.insert s.uses name u → IsFormed name u → IsKeptSince start (record s { uses = uses; before = before })
  on_now before uses u new unused made put is = record {
    view = h.view;
    noted = noted_now s.before start.uses s.uses h.noted name before uses (Some u) (absent_value (map.get s.before name) new) (made ∙ ap (map.insert s.before name) (sym (absent_value (map.get s.uses name) unused))) (λ q. ap (λ m. map.get m q) put ∙ map.get-insert nat_list_cmp_total s.uses name u q);
    formed = formed_more s.uses uses name u h.formed is put;
  }

  -- it is noted, and then finds no memory
  pub on_failed : (before : Before) → is_some (map.get s.before name) ≡ false → is_some (map.get s.uses name) ≡ false → before ≡ map.insert s.before name None → IsKeptSince start (record s { before = before })
  on_failed before new unused made = record {
    view = h.view;
    noted = noted_now s.before start.uses s.uses h.noted name before s.uses None (absent_value (map.get s.before name) new) (made ∙ ap (map.insert s.before name) (sym (absent_value (map.get s.uses name) unused)))
        (λ q. same_at q);
    formed = h.formed;
  }
    where
      same_at : (q : List ℕ) → map.get s.uses q ≡ cond (is_eq (slice_cmp nat_cmp q name)) None (map.get s.uses q)
      same_at q = elim (slice_cmp nat_cmp q name) as (λ r. slice_cmp nat_cmp q name ≡ r → map.get s.uses q ≡ cond (is_eq r) None (map.get s.uses q)) [
        | Less ↦ λ _. refl
        | Greater ↦ λ _. refl
        | Equal ↦ λ p. ap (map.get s.uses) (bytes_exact q name p) ∙ absent_value (map.get s.uses name) unused
      ] refl

  -- one that was noted goes out of use
  pub off_before : (uses : Uses) → is_some (map.get s.before name) ≡ true → uses ≡ map.remove s.uses name → IsKeptSince start (record s { uses = uses })
  off_before uses there put = record {
    view = h.view;
    noted = noted_before s.before start.uses s.uses h.noted name uses None there (λ q. ap (λ m. map.get m q) put ∙ map.get-remove nat_list_cmp_total s.uses name q);
    formed = formed_fewer s.uses uses name h.formed put;
  }

  -- one is noted as it was, and goes out of use
  pub off_now : (before : Before) (uses : Uses) → is_some (map.get s.before name) ≡ false → before ≡ map.insert s.before name (map.get s.uses name) → uses ≡ map.remove s.uses name → IsKeptSince start (record s { uses = uses; before = before })
  off_now before uses new made put = record {
    view = h.view;
    noted = noted_now s.before start.uses s.uses h.noted name before uses None (absent_value (map.get s.before name) new) made (λ q. ap (λ m. map.get m q) put ∙ map.get-remove nat_list_cmp_total s.uses name q);
    formed = formed_fewer s.uses uses name h.formed put;
  }

  -- one that isn't used is noted, unless it was before
  pub noted_unused : (before : Before) → is_some (map.get s.uses name) ≡ false → before ≡ cond (is_some (map.get s.before name)) s.before (map.insert s.before name None) → IsKeptSince start (record s { before = before })
  noted_unused before unused made = elim (is_some (map.get s.before name)) as (λ b. is_some (map.get s.before name) ≡ b → before ≡ cond b s.before (map.insert s.before name None) → IsKeptSince start (record s { before = before })) [
    | true ↦ λ _ e. subst (λ m. IsKeptSince start (record s { before = m })) (sym e) h
    | false ↦ λ n e. on_failed before n unused e
  ] refl made

  -- and then it comes into use
  pub used_noted : (before : Before) (uses : Uses) (u : SetUse) → is_some (map.get s.uses name) ≡ false → before ≡ cond (is_some (map.get s.before name)) s.before (map.insert s.before name None) → uses ≡ map.insert s.uses name u → IsFormed name u → IsKeptSince start (record s { uses = uses; before = before })
  used_noted before uses u unused made put is = elim (is_some (map.get s.before name)) as (λ b. is_some (map.get s.before name) ≡ b → before ≡ cond b s.before (map.insert s.before name None) → IsKeptSince start (record s { uses = uses; before = before })) [
    | true ↦ λ there e. subst (λ m. IsKeptSince start (record s { uses = uses; before = m })) (sym e) (on_before uses u there put is)
    | false ↦ λ n e. on_now before uses u n unused e put is
  ] refl made
