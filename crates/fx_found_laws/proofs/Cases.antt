-- Worked cases of rows of operations and of rules that name what one takes away.
use Rattle.std.proofs.Common.{◌≡◌, ℕ, true, false, List, codes, refl}
use Rattle.fx_reconcile.specs.declared.op.Op.TheVariants.{CreateSet, WriteChain, DeleteChain, DestroySet}
use Rattle.fx_found_laws.specs.OwnNames.{names_own_set_or_chain}
use Rattle.fx_found_laws.specs.OthersRows.{is_row_of, names_taken}

abbrev own_set : List ℕ
own_set = codes "cali40s:AAAAAAAAAAAAAAAAAAAAAAA"

abbrev policy : List ℕ
policy = codes "cali-pi-gnp/old"

names_own : names_own_set_or_chain (DeleteChain policy) ≡ true
names_own = refl

names_other : names_own_set_or_chain (WriteChain (codes "KUBE-FORWARD")) ≡ false
names_other = refl

created : is_row_of (CreateSet own_set) (codes "create cali40s:AAAAAAAAAAAAAAAAAAAAAAA hash:net") ≡ true
created = refl

filled : is_row_of (DestroySet own_set) (codes "add cali40s:AAAAAAAAAAAAAAAAAAAAAAA 10.0.0.0/8") ≡ true
filled = refl

headed : is_row_of (WriteChain policy) (codes ":cali-pi-gnp/old - [0:0]") ≡ true
headed = refl

ruled : is_row_of (DeleteChain policy) (codes "-A cali-pi-gnp/old -j DROP") ≡ true
ruled = refl

-- a name that only begins so is another
longer : is_row_of (DeleteChain policy) (codes "-A cali-pi-gnp/older -j DROP") ≡ false
longer = refl

-- a rule of another chain isn't a row of the chain to which it leads
led : is_row_of (DeleteChain policy) (codes "-A FORWARD -j cali-pi-gnp/old") ≡ false
led = refl

taken : names_taken (DeleteChain policy) (codes "-A FORWARD -j cali-pi-gnp/old") ≡ true
taken = refl

matched : names_taken (DestroySet own_set) (codes "-A FORWARD -m set --match-set cali40s:AAAAAAAAAAAAAAAAAAAAAAA src -j DROP") ≡ true
matched = refl

written : names_taken (WriteChain (codes "cali-FORWARD")) (codes "-A FORWARD -j cali-FORWARD") ≡ false
written = refl
