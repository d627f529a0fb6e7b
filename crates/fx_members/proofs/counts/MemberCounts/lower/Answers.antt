use Rattle.std.proofs.Common.{◌≡◌, ◌==◌, ◌-◌, false, unwrap_or, ap, sym, ◌∙◌}
use Rattle.std.specs.FinMap as map
use Rattle.fx_base.specs.Same.{same_numbers}
use Rattle.fx_members.specs.Counts.{count_at}
use Rattle.fx_members.proofs.CountLemmas.{count_put, count_out, count_now}
use Rattle.fx_members.proofs.counts.MemberCounts.lower.Goals as goal

pub returns-then-is_zero-clause-counts : goal.returns-then-is_zero-clause-counts
returns-then-is_zero-clause-counts c =
    let was : c.unwrap_or-uses.result ≡ count_at c.args.self.now c.args.name c.args.member =
    c.unwrap_or-uses.ensures ∙ (λ j. unwrap_or (c.remove.ensures.before j) (c.new.ensures j)) in
    count_out c.args.self.now c.args.name c.args.member c.unwrap_or-uses.result c.remove.new.self was
    (sym c.lower.ensures ∙ same_numbers c.lower.new.self 0 (sym c.is_zero.ensures ∙ c.if-is_zero.true)) c.remove.ensures.removed

pub returns-then-is_zero-clause-last : goal.returns-then-is_zero-clause-last
returns-then-is_zero-clause-last c =
    let was : c.unwrap_or-uses.result ≡ count_at c.args.self.now c.args.name c.args.member =
    c.unwrap_or-uses.ensures ∙ (λ j. unwrap_or (c.remove.ensures.before j) (c.new.ensures j)) in
    sym (ap (λ n. n == 0) (
    count_now c.args.self.now c.args.name c.args.member false c.remove.new.self (returns-then-is_zero-clause-counts c)
    ∙ ap (λ n. n - 1) (sym was) ∙ sym c.lower.ensures)
    ∙ sym c.is_zero.ensures ∙ c.if-is_zero.true)

pub returns-clause-counts : goal.returns-clause-counts
returns-clause-counts c =
    let was : c.unwrap_or-uses.result ≡ count_at c.args.self.now c.args.name c.args.member =
    c.unwrap_or-uses.ensures ∙ (λ j. unwrap_or (c.remove.ensures.before j) (c.new.ensures j)) in
    count_put c.args.self.now c.args.name c.args.member false c.unwrap_or-uses.result c.insert.new.self was
    (c.in_ok-insert.ensures ∙ (λ j. map.insert (c.remove.ensures.removed j) (c.args.member, c.args.name) (c.lower.ensures j)))

pub returns-clause-last : goal.returns-clause-last
returns-clause-last c =
    let was : c.unwrap_or-uses.result ≡ count_at c.args.self.now c.args.name c.args.member =
    c.unwrap_or-uses.ensures ∙ (λ j. unwrap_or (c.remove.ensures.before j) (c.new.ensures j)) in
    sym (ap (λ n. n == 0) (
    count_now c.args.self.now c.args.name c.args.member false c.insert.new.self (returns-clause-counts c)
    ∙ ap (λ n. n - 1) (sym was) ∙ sym c.lower.ensures)
    ∙ sym c.is_zero.ensures ∙ c.if-is_zero.false)
