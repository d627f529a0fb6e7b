-- Tables in which chains are written and deleted, one after another.
use Rattle.std.proofs.Common.{◌≡◌, ◌≢◌, List, sym, ap, ◌∙◌, subst}
use Rattle.std.specs.List.{AllByRecursion}
use Rattle.std.specs.FinMap as maps
use Rattle.fx_base.specs.Extended.{extended}
use Rattle.fx_base.proofs.KeyCases.{at_remove, there_insert, there_remove}
use Rattle.fx_model.specs.declared.chain.ChainRule.{ChainRule}
use Rattle.fx_model.specs.Tables.{ChainName, Chains, Tables, forward}
use Rattle.fx_model.specs.Writing.{CanBeWritten}
use Rattle.fx_tables.specs.Leads.{NoneLeadsTo}
use Rattle.fx_dispatch.specs.Plans.{CanBeDeleted, without}
use Rattle.fx_driver.specs.Driven.{HasFirst}

abbrev pub chains_to : Tables → Chains → Tables
chains_to t chains = record t { chains = chains }

pub first_written : (s t : Tables) (name : ChainName) (rules : List ChainRule) → t ≡ chains_to s (maps.insert s.chains name rules) → HasFirst s.chains → HasFirst t.chains
first_written s t name rules is h = ap (λ (u : Tables). maps.contains_key u.chains forward) is ∙ there_insert s.chains name rules forward h

pub first_deleted : (s t : Tables) (name : ChainName) → forward ≢ name → t ≡ chains_to s (maps.remove s.chains name) → HasFirst s.chains → HasFirst t.chains
first_deleted s t name other is h = ap (λ (u : Tables). maps.contains_key u.chains forward) is ∙ there_remove s.chains name forward other h

-- what no rule leads to, none leads to where a chain is gone
pub unused_still : (s t : Tables) (name other : ChainName) → t ≡ chains_to s (maps.remove s.chains name) → NoneLeadsTo s.chains other → NoneLeadsTo t.chains other
unused_still s t name other is h =
    subst (λ (u : Tables). NoneLeadsTo u.chains other) (sym is) (λ q rules e. h q rules (at_remove s.chains name q rules e))

-- chains are written: those that are left can be written, and with them all are
pub record IsWriting (first now : Tables) (all left : List (ChainName × List ChainRule)) : Type 0 where
  pub writable : CanBeWritten now.sets now.chains left
  pub whole : chains_to now (extended now.chains left) ≡ chains_to first (extended first.chains all)
  pub kept : HasFirst first.chains → HasFirst now.chains

-- chains are deleted
pub record IsDeleting (first now : Tables) (all left : List ChainName) : Type 0 where
  pub unused : CanBeDeleted now.chains left
  pub others : AllByRecursion (λ name. forward ≢ name) left
  pub whole : chains_to now (without now.chains left) ≡ chains_to first (without first.chains all)
  pub kept : HasFirst first.chains → HasFirst now.chains
