-- Two changes of the same field, one after another.
use Rattle.std.proofs.Common.{◌≡◌, refl, sym, ap, ◌∙◌}
use Rattle.fx_model.specs.Pairs.{Pairs}
use Rattle.fx_active.specs.declared.inputs.Inputs as active
use Rattle.fx_label_index.specs.Canonicals.{Selectors}
use Rattle.fx_label_index.specs.declared.held.Inputs as index
use Rattle.fx_members.specs.declared.inputs.Inputs as members
use Rattle.fx_sequencer.specs.declared.sides.Sides.{Sides}
use Rattle.fx_graph_view.specs.Kept.{SameButSets}

pub index_after : (a b c : index.Inputs) (s t : Selectors) → b ≡ record a { selectors = s } → c ≡ record b { selectors = t } → c ≡ record a { selectors = t }
index_after a b c s t first next = next ∙ ap (λ (n : index.Inputs). record n { selectors = t }) first

-- the changed field is what stands there
pub index_own : (a c : index.Inputs) (t : Selectors) → c ≡ record a { selectors = t } → c ≡ record a { selectors = c.selectors }
index_own a c t change = change ∙ ap (λ (s : Selectors). record a { selectors = s }) (sym (ap (λ (n : index.Inputs). n.selectors) change))

pub active_after : (a b c : active.Inputs) (m n : Pairs) → b ≡ record a { matched = m } → c ≡ record b { matched = n } → c ≡ record a { matched = n }
active_after a b c m n first next = next ∙ ap (λ (x : active.Inputs). record x { matched = n }) first

pub members_after : (a b c : members.Inputs) (m n : Pairs) → b ≡ record a { matched = m } → c ≡ record b { matched = n } → c ≡ record a { matched = n }
members_after a b c m n first next = next ∙ ap (λ (x : members.Inputs). record x { matched = n }) first

pub beside_none : (a : Sides) → SameButSets a a
beside_none a = record { sent = refl; policies = refl; profiles = refl; endpoints = refl }

pub beside_after : (a b c : Sides) → SameButSets a b → SameButSets b c → SameButSets a c
beside_after a b c first next = record {
  sent = next.sent ∙ first.sent;
  policies = next.policies ∙ first.policies;
  profiles = next.profiles ∙ first.profiles;
  endpoints = next.endpoints ∙ first.endpoints;
}
