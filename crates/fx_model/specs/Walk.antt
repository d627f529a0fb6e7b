-- The packet machine as a walk by recursion over chains that lead to lower ranks. From iptables(8), as the machine by single
-- steps is: a jump comes back to the next rule, a goto to where its own chain was called from.
use Rattle.std.specs.Prelude.{ℕ, zero, suc, true, false, List, [], ◌∷◌}
use Rattle.fx_model.specs.declared.packet.Verdict.{Verdict}
use Rattle.fx_model.specs.declared.packet.Verdict.TheVariants.{Allow, Deny}
use Rattle.fx_model.specs.declared.chain.Target.{Target}
use Rattle.fx_model.specs.declared.chain.Target.TheVariants as target
use Rattle.fx_model.specs.declared.chain.ChainRule.{ChainRule}
use Rattle.fx_model.specs.Tables.{ChainName, Chains}
use Rattle.fx_model.specs.Machine.{Notes, Test, hold_all, marked, rules_in}

-- how the walk of a chain's rules comes to its end
pub data Ended (S : Type 0) : Type 0 where
  -- a rule accepted or dropped the packet
  Accepted : S → Ended S
  Dropped : S → Ended S
  -- RETURN was met, or the end of a chain that was gone to
  Left : ℕ → S → Ended S
  -- the end of the rules was met
  Through : ℕ → S → Ended S

-- where the first chain ends so, the packet is allowed unless it was dropped
abbrev pub verdict_of : {S : Type 0} → Ended S → Verdict
verdict_of (Accepted s) = Allow
verdict_of (Dropped s) = Deny
verdict_of (Left m s) = Allow
verdict_of (Through m s) = Allow

abbrev pub noted_in : {S : Type 0} → Ended S → S
noted_in (Accepted s) = s
noted_in (Dropped s) = s
noted_in (Left m s) = s
noted_in (Through m s) = s

-- what becomes of a mark and of what was noted
abbrev pub Onward : Type 0 → Type 0
Onward S = ℕ → S → Ended S

-- the next rules, where the rules before them came to their end
abbrev pub onward : {S : Type 0} → Ended S → Onward S → Ended S
onward (Accepted s) go = Accepted s
onward (Dropped s) go = Dropped s
onward (Left m s) go = Left m s
onward (Through m s) go = go m s

-- a jump: what was called comes back to the caller's next rule
abbrev pub after_jump : {S : Type 0} → Ended S → Ended S
after_jump (Accepted s) = Accepted s
after_jump (Dropped s) = Dropped s
after_jump (Left m s) = Through m s
after_jump (Through m s) = Through m s

-- a goto: what was called comes back to where the chain itself was called from
abbrev pub after_goto : {S : Type 0} → Ended S → Ended S
after_goto (Accepted s) = Accepted s
after_goto (Dropped s) = Dropped s
after_goto (Left m s) = Left m s
after_goto (Through m s) = Left m s

-- a target, where `call` walks a chain
abbrev pub obeyed : {S : Type 0} → (ChainName → Onward S) → Target → Onward S
obeyed call target.Accept m s = Accepted s
obeyed call target.Drop m s = Dropped s
obeyed call target.Return m s = Left m s
obeyed call (target.Jump to) m s = after_jump (call to m s)
obeyed call (target.Goto to) m s = after_goto (call to m s)
obeyed call (target.Mark value mask) m s = Through (marked m value mask) s
obeyed call target.Log m s = Through m s

-- one rule: its target if all its matches hold
unfoldable pub over_rule : {S : Type 0} → Notes S → Test → (ChainName → Onward S) → ChainName → ℕ → ChainRule → Onward S
over_rule note test call name place r m s =
    elim (hold_all test m r.matches) [
      | true ↦ obeyed call r.target m (note name place r s)
      | false ↦ Through m s
    ]

-- the rules of a chain, from this place on
unfoldable pub over_rules : {S : Type 0} → Notes S → Test → (ChainName → Onward S) → ChainName → ℕ → List ChainRule → Onward S
over_rules note test call name place [] m s = Through m s
over_rules note test call name place (r ∷ rs) m s =
    onward (over_rule note test call name place r m s) (over_rules note test call name (suc place) rs)

-- a chain, where rules lead at most this many chains deep
unfoldable pub over_chain : {S : Type 0} → Notes S → Test → Chains → ℕ → ChainName → Onward S
over_chain note test chains zero name m s = Through m s
over_chain note test chains (suc n) name m s = over_rules note test (over_chain note test chains n) name 1 (rules_in chains name) m s
