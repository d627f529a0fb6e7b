-- Uses that are pushed one after another.
use Rattle.std.proofs.Common.{◌≡◌, ℕ, ◌+◌, ◌<◌, List, [], ◌∷◌, ◌++◌, length, take, get_or, sym, ap, ◌∙◌}
use Rattle.std.proofs.lemmas.List.{append_assoc, append-nil, take_more}
use Rattle.std.proofs.lemmas.Grind.{flat_map-append}
use Rattle.std.specs.List.{flat_map}
use Rattle.fx_model.specs.declared.rules.Rule.{Rule}
use Rattle.fx_selector.specs.Tree.{IsSelector}
use Rattle.fx_model.specs.declared.set_use.SetUse.{SetUse}
use Rattle.fx_model.specs.Sets.{AreSelectors, rule_uses}

pub one_more : (us : List SetUse) (u : SetUse) → IsSelector u.selector → AreSelectors us → AreSelectors (us ++ u ∷ [])
one_more [] u h all = (h, tt)
one_more (v ∷ vs) u h all = (all.0, one_more vs u h all.1)

-- the uses of one rule more
pub one_rule_more : (before us vs : List SetUse) (items : List Rule) (i : ℕ) (d r : Rule) → i < length items → r ≡ get_or items i d → us ≡ before ++ flat_map rule_uses (take i items) → vs ≡ us ++ rule_uses r → vs ≡ before ++ flat_map rule_uses (take (i + 1) items)
one_rule_more before us vs items i d r within here those this =
    this ∙ (ap (λ (l : List SetUse). l ++ rule_uses r) those
    ∙ (append_assoc before (flat_map rule_uses (take i items)) (rule_uses r)
    ∙ ap (λ (l : List SetUse). before ++ l)
    (ap (λ q. flat_map rule_uses (take i items) ++ rule_uses q) here
    ∙ (ap (λ (l : List SetUse). flat_map rule_uses (take i items) ++ l) (sym (append-nil (rule_uses (get_or items i d))))
    ∙ sym (ap (flat_map rule_uses) (take_more items i d within) ∙ flat_map-append rule_uses (take i items) (get_or items i d ∷ []))))))
