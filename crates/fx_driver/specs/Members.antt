-- A set whose members come and go one by one. By ipset(8) an entry that is there can't be added, nor one deleted that isn't.
use Rattle.std.specs.Prelude.{◌≡◌, List, [], ◌∷◌, true, false}
use Rattle.fx_base.specs.Set as set
use Rattle.fx_model.specs.declared.member.Member.{Member}
use Rattle.fx_model.specs.Messages.{Members}

-- each of these is absent at its turn
abbrev pub AreNew : Members → List Member → Type 0
AreNew s [] = Unit {0}
AreNew s (x ∷ xs) = (set.contains s x ≡ false) × AreNew (set.insert s x) xs

-- each of these is there at its turn
abbrev pub AreHeld : Members → List Member → Type 0
AreHeld s [] = Unit {0}
AreHeld s (x ∷ xs) = (set.contains s x ≡ true) × AreHeld (set.remove s x) xs

abbrev pub with_members : Members → List Member → Members
with_members s [] = s
with_members s (x ∷ xs) = with_members (set.insert s x) xs

abbrev pub without_members : Members → List Member → Members
without_members s [] = s
without_members s (x ∷ xs) = without_members (set.remove s x) xs
