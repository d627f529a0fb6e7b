use Rattle.std.proofs.Common.{◌≡◌, ◌≤◌, ℕ, List, false, cond, ap, sym, ◌∙◌, subst}
use Rattle.std.specs.FinMap as map
use Rattle.std.specs.Option.{option_copied}
use Rattle.fx_model.specs.declared.member.Member.{Member}
use Rattle.fx_members.specs.Counts.{count_at, gives, shifted}
use Rattle.fx_base.specs.Grouped.{has_key}
use Rattle.fx_members.proofs.CountLemmas.{unmoved}
use Rattle.fx_members.proofs.walks.change_named.Goals as goal

pub change_each_named-requires-clause-counted : goal.change_each_named-requires-clause-counted
change_each_named-requires-clause-counted g c =
    subst (λ o. c.args.more ≡ false → (q : List ℕ) (m : Member) → cond (has_key (option_copied o) q) (gives (map.get c.args.uses.now q) (option_copied c.args.item) m) 0 ≤ count_at c.args.counts.now q m)
    c.in-Some.is c.requires.counted

pub returns-in_default-clause-counts : goal.returns-in_default-clause-counts
returns-in_default-clause-counts g c = λ q m.
    let n = count_at c.args.counts.now q m in
    sym (ap (λ o. shifted c.args.more (cond (has_key (option_copied o) q) (gives (map.get c.args.uses.now q) (option_copied c.args.item) m) 0) n) c.in_default.is ∙ unmoved c.args.more n)
