-- Each operation keeps what tables keep: every rule leads to a chain that is there and has a lower rank and names sets that are
-- there, rules have their shapes, and sets have members of their kinds.
use Rattle.std.proofs.Common.{◌≡◌, inl, inr, ℕ, Bool, true, false, cond, List, [], ◌∷◌, Option, Some, None, is_some, refl, sym, ap, ◌∙◌, subst}
use Rattle.std.specs.declared.cmp.Ordering.{Ordering}
use Rattle.std.specs.declared.cmp.Ordering.TheVariants.{Less, Equal, Greater}
use Rattle.std.specs.Ordering.{eq_by_cmp, is_eq}
use Rattle.std.specs.FinMap as map
use Rattle.fx_base.specs.Set as set
use Rattle.fx_base.proofs.AtKey.{get_empty}
use Rattle.fx_base.proofs.KeyCases.{at_insert, at_remove, there_insert, there_remove}
use Rattle.fx_model.specs.declared.member.Member.{Member}
use Rattle.fx_model.specs.contracts.member.MemberOrd.TheImpl as member_cmp
use Rattle.fx_model.specs.contracts.member.MemberOrd.TheImpl.Laws as member_laws
use Rattle.fx_model.specs.declared.chain.Match.{Match}
use Rattle.fx_model.specs.declared.chain.Match.TheVariants as match
use Rattle.fx_model.specs.declared.chain.Target.{Target}
use Rattle.fx_model.specs.declared.chain.Target.TheVariants as target
use Rattle.fx_model.specs.declared.chain.ChainRule.{ChainRule}
use Rattle.fx_model.specs.Messages.{Members, members_of}
use Rattle.fx_model.specs.Tables.{ChainName, Chains, Sets}
use Rattle.fx_model.specs.Ranks.{AllLeadBelow, rank_of}
use Rattle.fx_model.specs.Closed.{LeadsThere, AllLeadThere, NamesThere, MatchesNameThere, AllNameThere}
use Rattle.fx_model.specs.Shapes.{have_shape, is_member_of, AreOfKinds}
use Rattle.fx_tables.specs.Leads.{LeadsElsewhere, AllLeadElsewhere, NoneLeadsTo}
use Rattle.fx_tables.specs.Names.{NamesElse, MatchesNameElse, AllNameElse, NoneNames}
use Rattle.fx_tables.specs.Invariant.{AreKept}
use Rattle.fx_model.proofs.Orders.{exact_member}
use Rattle.fx_model.proofs.ChainWrites.{ranked-empty, closed-empty, ranked-write, closed-write, shaped-write}

no_rules : {A : Type 0} (rules : List ChainRule) → None ≡ Some rules → A
no_rules rules e = cc

no_members : {A : Type 0} (members : Members) → None ≡ Some members → A
no_members members e = cc

-- sets alone
sets_alone : (sets : Sets) → AreOfKinds sets → AreKept (record { sets = sets; chains = map.empty })
sets_alone sets kinds = record {
  ranked = ranked-empty;
  closed = closed-empty sets;
  shaped = λ name rules e. no_rules rules (sym (get_empty name) ∙ e);
  kinds = kinds;
}

-- copies of sets alone
pub kept_sets : (sets copies : Sets) (chains : Chains) → AreOfKinds sets → copies ≡ sets → chains ≡ map.empty → AreKept (record { sets = copies; chains = chains })
kept_sets sets copies chains kinds copied none = rw (copied, none) (sets_alone sets kinds)

pub kept-empty : AreKept (record { sets = map.empty; chains = map.empty })
kept-empty = sets_alone map.empty (λ name members e. no_members members (sym (get_empty name) ∙ e))

-- ---- chains

module _ (chains : Chains) (name : ChainName) where
  leads-remove : (t : Target) → LeadsElsewhere name t → LeadsThere chains t → LeadsThere (map.remove chains name) t
  leads-remove target.Accept other h = tt
  leads-remove target.Drop other h = tt
  leads-remove target.Return other h = tt
  leads-remove (target.Jump to) other h = there_remove chains name to other h
  leads-remove (target.Goto to) other h = there_remove chains name to other h
  leads-remove (target.Mark value mask) other h = tt
  leads-remove target.Log other h = tt

  pub all_lead-remove : (rs : List ChainRule) → AllLeadElsewhere name rs → AllLeadThere chains rs → AllLeadThere (map.remove chains name) rs
  all_lead-remove [] other h = tt
  all_lead-remove (r ∷ rs) other h = (leads-remove r.target other.0 h.0, all_lead-remove rs other.1 h.1)

module _ (sets : Sets) (chains : Chains) (name : ChainName) (was : AreKept (record { sets = sets; chains = chains })) where
  pub kept-write : (rules : List ChainRule) → AllLeadThere chains rules → AllLeadBelow (rank_of name) rules → AllNameThere sets rules → have_shape rules ≡ true → AreKept (record { sets = sets; chains = map.insert chains name rules })
  kept-write rules there below named shaped = record {
    ranked = ranked-write chains name rules was.ranked below;
    closed = closed-write chains name rules sets was.closed there named;
    shaped = shaped-write chains name rules was.shaped shaped;
    kinds = was.kinds;
  }

  pub kept-delete : NoneLeadsTo chains name → AreKept (record { sets = sets; chains = map.remove chains name })
  kept-delete none = record {
    ranked = record { lower = λ q rs e. was.ranked.lower q rs (at_remove chains name q rs e) };
    closed = record {
      chains = λ q rs e. let is = at_remove chains name q rs e in all_lead-remove chains name rs (none q rs is) (was.closed.chains q rs is);
      sets = λ q rs e. was.closed.sets q rs (at_remove chains name q rs e);
    };
    shaped = λ q rs e. was.shaped q rs (at_remove chains name q rs e);
    kinds = was.kinds;
  }

-- ---- sets

-- the sets that matches name stay there
module _ (sets more : Sets) (stay : (q : List ℕ) → map.contains_key sets q ≡ true → map.contains_key more q ≡ true) where
  names_stay : (m : Match) → NamesThere sets m → NamesThere more m
  names_stay (match.Proto proto opposite) h = tt
  names_stay (match.Net end net opposite) h = tt
  names_stay (match.Iface end name wild) h = tt
  names_stay (match.Mark value mask) h = tt
  names_stay (match.State related_established) h = tt
  names_stay (match.Set end name opposite) h = stay name h
  names_stay (match.Ports end list opposite) h = tt
  names_stay (match.Icmp icmp opposite) h = tt

  matches_stay : (ms : List Match) → MatchesNameThere sets ms → MatchesNameThere more ms
  matches_stay [] h = tt
  matches_stay (m ∷ ms) h = (names_stay m h.0, matches_stay ms h.1)

  pub all_stay : (rs : List ChainRule) → AllNameThere sets rs → AllNameThere more rs
  all_stay [] h = tt
  all_stay (r ∷ rs) h = (matches_stay r.matches h.0, all_stay rs h.1)

module _ (sets : Sets) (name : List ℕ) where
  names-remove : (m : Match) → NamesElse name m → NamesThere sets m → NamesThere (map.remove sets name) m
  names-remove (match.Proto proto opposite) other h = tt
  names-remove (match.Net end net opposite) other h = tt
  names-remove (match.Iface end iface wild) other h = tt
  names-remove (match.Mark value mask) other h = tt
  names-remove (match.State related_established) other h = tt
  names-remove (match.Set end q opposite) other h = there_remove sets name q other h
  names-remove (match.Ports end list opposite) other h = tt
  names-remove (match.Icmp icmp opposite) other h = tt

  matches-remove : (ms : List Match) → MatchesNameElse name ms → MatchesNameThere sets ms → MatchesNameThere (map.remove sets name) ms
  matches-remove [] other h = tt
  matches-remove (m ∷ ms) other h = (names-remove m other.0 h.0, matches-remove ms other.1 h.1)

  pub all-remove : (rs : List ChainRule) → AllNameElse name rs → AllNameThere sets rs → AllNameThere (map.remove sets name) rs
  all-remove [] other h = tt
  all-remove (r ∷ rs) other h = (matches-remove r.matches other.0 h.0, all-remove rs other.1 h.1)

is_equal : (r : Ordering) → is_eq r ≡ true → r ≡ Equal
is_equal Less h = cc
is_equal Equal h = refl
is_equal Greater h = cc

-- members of a set
abbrev AllOfKind : List ℕ → Members → Type 0
AllOfKind name members = (x : Member) → set.contains members x ≡ true → is_member_of name x ≡ true

none_of_kind : (name : List ℕ) → AllOfKind name set.empty
none_of_kind name x e = absurd (never (map.get-empty member_cmp.cmp-value.it x) e)
  where
    never : {o : Option (Unit {0})} → o ≡ None → is_some o ≡ true → ⊥
    never p q = cc

inserted_of_kind : (name : List ℕ) (members : Members) (y : Member) → is_member_of name y ≡ true → AllOfKind name members → AllOfKind name (set.insert members y)
inserted_of_kind name members y fits all x e = by_test (eq_by_cmp member_cmp.cmp-value.it x y) refl (sym (ap is_some (map.get-insert member_laws.total-law members y tt x)) ∙ e)
  where
    by_test : (b : Bool) → eq_by_cmp member_cmp.cmp-value.it x y ≡ b → is_some (cond b (Some tt) (map.get members x)) ≡ true → is_member_of name x ≡ true
    by_test true is h = subst (λ (z : Member). is_member_of name z ≡ true) (sym (exact_member x y (is_equal (member_cmp.cmp-value.it x y) is))) fits
    by_test false is h = all x h

removed_of_kind : (name : List ℕ) (members : Members) (y : Member) → AllOfKind name members → AllOfKind name (set.remove members y)
removed_of_kind name members y all x e = by_test (eq_by_cmp member_cmp.cmp-value.it x y) (sym (ap is_some (map.get-remove member_laws.total-law members y x)) ∙ e)
  where
    by_test : (b : Bool) → is_some (cond b None (map.get members x)) ≡ true → is_member_of name x ≡ true
    by_test true h = cc
    by_test false h = all x h

module _ (sets : Sets) (chains : Chains) (name : List ℕ) (was : AreKept (record { sets = sets; chains = chains })) where
  of_kind : AllOfKind name (members_of (map.get sets name))
  of_kind = by_value (map.get sets name) refl
    where
      by_value : (o : Option Members) → map.get sets name ≡ o → AllOfKind name (members_of o)
      by_value None is = none_of_kind name
      by_value (Some members) is = was.kinds name members is

  -- a set with these members in place of the one that is there, or as a new one
  kept-set : (members : Members) → AllOfKind name members → AreKept (record { sets = map.insert sets name members; chains = chains })
  kept-set members all = record {
    ranked = was.ranked;
    closed = record {
      chains = was.closed.chains;
      sets = λ q rs e. all_stay sets (map.insert sets name members) (λ k h. there_insert sets name members k h) rs (was.closed.sets q rs e);
    };
    shaped = was.shaped;
    kinds = λ q found e. elim (at_insert sets name members q found e) as (λ _. AllOfKind q found) [
      | inl is ↦ subst (λ (k : List ℕ). AllOfKind k found) (sym is.0) (subst (AllOfKind name) is.1 all)
      | inr is ↦ was.kinds q found is
    ];
  }

  pub kept-create : AreKept (record { sets = map.insert sets name set.empty; chains = chains })
  kept-create = kept-set set.empty (none_of_kind name)

  pub kept-add : (member : Member) → is_member_of name member ≡ true → AreKept (record { sets = map.insert sets name (set.insert (members_of (map.get sets name)) member); chains = chains })
  kept-add member fits = kept-set _ (inserted_of_kind name (members_of (map.get sets name)) member fits of_kind)

  pub kept-take : (member : Member) → AreKept (record { sets = map.insert sets name (set.remove (members_of (map.get sets name)) member); chains = chains })
  kept-take member = kept-set _ (removed_of_kind name (members_of (map.get sets name)) member of_kind)

  pub kept-destroy : NoneNames chains name → AreKept (record { sets = map.remove sets name; chains = chains })
  kept-destroy none = record {
    ranked = was.ranked;
    closed = record {
      chains = was.closed.chains;
      sets = λ q rs e. all-remove sets name rs (none q rs e) (was.closed.sets q rs e);
    };
    shaped = was.shaped;
    kinds = λ q found e. was.kinds q found (at_remove sets name q found e);
  }
