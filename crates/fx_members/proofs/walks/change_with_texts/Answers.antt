use Rattle.std.proofs.Common.{◌≡◌, ◌≤◌, ℕ, List, false, cond, ap, subst}
use Rattle.std.specs.FinMap as map
use Rattle.std.specs.Option.{option_copied}
use Rattle.fx_model.specs.declared.member.Member.{Member}
use Rattle.fx_members.specs.Counts.{count_at, gives}
use Rattle.fx_members.specs.Indexes.{has_text_of}
use Rattle.fx_members.proofs.ListLemmas.{without_texts}
use Rattle.fx_members.proofs.walks.change_with_texts.Goals as goal

pub change_each_text-requires-clause-counted : goal.change_each_text-requires-clause-counted
change_each_text-requires-clause-counted g c =
    subst (λ o. c.args.more ≡ false → (q : List ℕ) (m : Member) → cond (has_text_of (option_copied o) (map.get c.args.uses.now q)) (gives (map.get c.args.uses.now q) (option_copied c.args.item) m) 0 ≤ count_at c.args.counts.now q m)
    c.in-Some.is c.requires.counted

pub returns-in_default-clause-counts : goal.returns-in_default-clause-counts
returns-in_default-clause-counts g c = λ q m.
    without_texts c.args.more (option_copied c.args.texts) (map.get c.args.uses.now q) (gives (map.get c.args.uses.now q) (option_copied c.args.item) m) (count_at c.args.counts.now q m) (ap option_copied c.in_default.is)
