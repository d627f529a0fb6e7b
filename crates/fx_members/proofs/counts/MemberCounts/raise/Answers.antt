use Rattle.std.proofs.Common.{◌≡◌, ◌==◌, true, unwrap_or, ap, ◌∙◌}
use Rattle.std.specs.FinMap as map
use Rattle.fx_members.specs.Counts.{count_at}
use Rattle.fx_members.proofs.CountLemmas.{count_put}
use Rattle.fx_members.proofs.counts.MemberCounts.raise.Goals as goal

pub returns-clause-counts : goal.returns-clause-counts
returns-clause-counts c =
    let was : c.unwrap_or-uses.result ≡ count_at c.args.self.now c.args.name c.args.member =
    c.unwrap_or-uses.ensures ∙ (λ j. unwrap_or (c.remove.ensures.before j) (c.new.ensures j)) in
    count_put c.args.self.now c.args.name c.args.member true c.unwrap_or-uses.result c.insert.new.self was
    (c.in_ok-insert.ensures ∙ (λ j. map.insert (c.remove.ensures.removed j) (c.args.member, c.args.name) (c.in_ok-raise.ensures.ok j)))

pub returns-clause-first : goal.returns-clause-first
returns-clause-first c =
    c.is_zero-first.ensures ∙ ap (λ n. n == 0) (c.unwrap_or-uses.ensures ∙ (λ j. unwrap_or (c.remove.ensures.before j) (c.new.ensures j)))
