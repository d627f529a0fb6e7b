-- A run from any chain: as the machine of iptables(8) goes from a hook's first chain on, begun at this one, whose end
-- accepts. What is told of it is the verdict, the reason of the last rule that matched and has one, and the last rule
-- that matched.
use Rattle.std.specs.Prelude.{◌≡◌, ◌↔◌, ℕ, Bool, true, false, List, [], ◌∷◌, Option, Some, None}
use Rattle.std.specs.List.{list_any}
use Rattle.fx_model.specs.declared.chain.Reason.{Reason}
use Rattle.fx_model.specs.declared.chain.Tag.{Tag}
use Rattle.fx_model.specs.declared.chain.Tag.TheVariants.{Plain, Why}
use Rattle.fx_model.specs.declared.chain.Tag.TheVariants as tag
use Rattle.fx_model.specs.declared.packet.Packet.{Packet}
use Rattle.fx_model.specs.declared.packet.Verdict.{Verdict}
use Rattle.fx_model.specs.Machine.{Notes, Reasons, Run, at_rule, holds}
use Rattle.fx_model.specs.Tables.{ChainName, Tables}
use Rattle.fx_walk.specs.declared.outcome.Hop.{Hop}

-- ---- the rules that matched

-- where a rule that matched stands, and what it stands for
pub record Met : Type 0 where
  pub hop : Hop
  pub tag : Tag

abbrev pub hop_at : ChainName → ℕ → Hop
hop_at chain place = record { chain = chain; place = place }

-- all of them, the last one first
abbrev pub each_match : Notes (List Met)
each_match chain place r met = record { hop = hop_at chain place; tag = r.tag } ∷ met

abbrev pub none_met : List Met
none_met = []

abbrev pub last_hop : List Met → Option Hop
last_hop [] = None
last_hop (m ∷ met) = Some m.hop

-- the reason of a rule, or else this
abbrev pub reason_or : Tag → Option Reason → Option Reason
reason_or Plain why = why
reason_or tag.Log why = why
reason_or (Why w) why = Some w

abbrev pub last_why : List Met → Option Reason
last_why [] = None
last_why (m ∷ met) = reason_or m.tag (last_why met)

-- ---- the whole run, from the first rule of this chain with mark 0

-- it ends with this verdict, this last reason and this last rule
pub record DecidesFrom (tables : Tables) (start : ChainName) (a : Packet) (v : Verdict) (why : Option Reason) (last : Option Hop) : Type 0 where
  pub met : List Met
  pub run : Run (List Met) each_match (holds tables.sets a) tables.chains (at_rule start 0 [] 0 none_met) v met
  pub why_is : why ≡ last_why met
  pub last_is : last ≡ last_hop met

-- a run has one end
abbrev pub RunFromHasOneEnd : Type 0
RunFromHasOneEnd =
    (tables : Tables) (start : ChainName) (a : Packet) (v w : Verdict) (e f : Option Reason) (k l : Option Hop)
    → DecidesFrom tables start a v e k → DecidesFrom tables start a w f l
    → (v ≡ w) × (e ≡ f) × (k ≡ l)

-- no rule is the last exactly where none matched
abbrev pub NoneMatchedIsNoLast : Type 0
NoneMatchedIsNoLast =
    (tables : Tables) (start : ChainName) (a : Packet) (v : Verdict) (why : Option Reason) (last : Option Hop)
    (run : DecidesFrom tables start a v why last)
    → (last ≡ None) ↔ (run.met ≡ [])

abbrev pub has_reason : Tag → Bool
has_reason Plain = false
has_reason tag.Log = false
has_reason (Why w) = true

-- there is no last reason exactly where no rule that matched has one
abbrev pub NoneReasonedIsNoReason : Type 0
NoneReasonedIsNoReason =
    (tables : Tables) (start : ChainName) (a : Packet) (v : Verdict) (why : Option Reason) (last : Option Hop)
    (run : DecidesFrom tables start a v why last)
    → (why ≡ None) ↔ (list_any (λ m. has_reason m.tag) run.met ≡ false)

-- ---- what a walk keeps of them

-- the last reason stands in place of that of the way out
abbrev pub keep_reason : Notes Reasons
keep_reason chain place r s = record s { egress = reason_or r.tag s.egress }

pub record LastSeen : Type 0 where
  pub reason : Option Reason
  pub last : Option Hop

abbrev pub last_match : Notes LastSeen
last_match chain place r s = record { reason = reason_or r.tag s.reason; last = Some (hop_at chain place) }
