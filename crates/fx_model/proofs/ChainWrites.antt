-- To write a chain that leads to chains that are there and of lower ranks keeps tables closed and ranked.
use Rattle.std.proofs.Common.{◌≡◌, true, inl, inr, List, [], ◌∷◌, Some, None, sym, ◌∙◌, subst}
use Rattle.std.specs.FinMap as maps
use Rattle.fx_base.proofs.AtKey.{get_empty}
use Rattle.fx_base.proofs.KeyCases.{at_insert, there_insert}
use Rattle.fx_model.specs.declared.chain.Target.{Target}
use Rattle.fx_model.specs.declared.chain.Target.TheVariants as target
use Rattle.fx_model.specs.declared.chain.ChainRule.{ChainRule}
use Rattle.fx_model.specs.Tables.{ChainName, Chains, Sets}
use Rattle.fx_model.specs.Ranks.{AllLeadBelow, IsRanked, rank_of}
use Rattle.fx_model.specs.Closed.{LeadsThere, AllLeadThere, AllNameThere, AreClosedTables}
use Rattle.fx_model.specs.Shapes.{have_shape, AreShaped}

nothing_there : {A : Type 0} (rules : List ChainRule) → None ≡ Some rules → A
nothing_there rules e = cc

pub ranked-empty : IsRanked maps.empty
ranked-empty = record { lower = λ name rules e. nothing_there rules (sym (get_empty name) ∙ e) }

pub closed-empty : (sets : Sets) → AreClosedTables (record { sets = sets; chains = maps.empty })
closed-empty sets = record {
  chains = λ name rules e. nothing_there rules (sym (get_empty name) ∙ e);
  sets = λ name rules e. nothing_there rules (sym (get_empty name) ∙ e);
}

module _ (chains : Chains) (name : ChainName) (rules : List ChainRule) where
  leads-insert : (t : Target) → LeadsThere chains t → LeadsThere (maps.insert chains name rules) t
  leads-insert target.Accept h = tt
  leads-insert target.Drop h = tt
  leads-insert target.Return h = tt
  leads-insert (target.Jump to) h = there_insert chains name rules to h
  leads-insert (target.Goto to) h = there_insert chains name rules to h
  leads-insert (target.Mark value mask) h = tt
  leads-insert target.Log h = tt

  all_lead-insert : (rs : List ChainRule) → AllLeadThere chains rs → AllLeadThere (maps.insert chains name rules) rs
  all_lead-insert [] h = tt
  all_lead-insert (r ∷ rs) h = (leads-insert r.target h.0, all_lead-insert rs h.1)

  pub ranked-write : IsRanked chains → AllLeadBelow (rank_of name) rules → IsRanked (maps.insert chains name rules)
  ranked-write was below = record {
    lower = λ q rs e. elim (at_insert chains name rules q rs e) as (λ _. AllLeadBelow (rank_of q) rs) [
      | inl is ↦ subst (λ (k : ChainName). AllLeadBelow (rank_of k) rs) (sym is.0) (subst (AllLeadBelow (rank_of name)) is.1 below)
      | inr is ↦ was.lower q rs is
    ];
  }

  pub closed-write : (sets : Sets) → AreClosedTables (record { sets = sets; chains = chains }) → AllLeadThere chains rules → AllNameThere sets rules → AreClosedTables (record { sets = sets; chains = maps.insert chains name rules })
  closed-write sets was there named = record {
    chains = λ q rs e. elim (at_insert chains name rules q rs e) as (λ _. AllLeadThere (maps.insert chains name rules) rs) [
      | inl is ↦ all_lead-insert rs (subst (AllLeadThere chains) is.1 there)
      | inr is ↦ all_lead-insert rs (was.chains q rs is)
    ];
    sets = λ q rs e. elim (at_insert chains name rules q rs e) as (λ _. AllNameThere sets rs) [
      | inl is ↦ subst (AllNameThere sets) is.1 named
      | inr is ↦ was.sets q rs is
    ];
  }

  pub shaped-write : AreShaped chains → have_shape rules ≡ true → AreShaped (maps.insert chains name rules)
  shaped-write was shaped q rs e = elim (at_insert chains name rules q rs e) as (λ _. have_shape rs ≡ true) [
    | inl is ↦ subst (λ (l : List ChainRule). have_shape l ≡ true) is.1 shaped
    | inr is ↦ was q rs is
  ]
