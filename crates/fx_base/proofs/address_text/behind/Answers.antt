use Rattle.std.proofs.Common.{◌≡◌, ◌<◌, ℕ, List, [], ◌∷◌, nat_eq, Bool, false, sym, subst, length, arith}
use Rattle.fx_base.specs.Forms.{Reads, Leaves}
use Rattle.fx_base.specs.Addresses.{Behind}
use Rattle.fx_base.proofs.AddressLemmas.{nothing_leaves}
use Rattle.fx_base.proofs.address_text.behind.Goals as goal

some : (text : List ℕ) → false ≡ nat_eq (length text) 0 → 0 < length text
some [] e = absurd (cc)
some (c ∷ text) e = omega arith

pub returns-then-takes_length : goal.returns-then-takes_length
returns-then-takes_length c = subst (λ (takes : Bool). Reads (Behind takes) c.args.text.now c.optional.result) (sym c.if-takes_length.true) c.optional.ensures

pub returns-else-is_empty : goal.returns-else-is_empty
returns-else-is_empty c = subst (λ (takes : Bool). Leaves (Behind takes) c.args.text.now 0) (sym c.if-takes_length.false) (nothing_leaves c.args.text.now (some c.args.text.now c.if-is_empty.ensures))
