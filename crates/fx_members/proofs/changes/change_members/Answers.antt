use Rattle.std.proofs.Common.{◌≡◌, ◌≤◌, ◌+◌, ◌∷◌, drop, cond, ap, sym, ◌∙◌, subst}
use Rattle.std.proofs.lemmas.List.{drop_more, drop_all}
use Rattle.fx_members.specs.Counts.{count_at, is_place, shifted, times}
use Rattle.fx_members.proofs.ListLemmas.{MembersSoFar, member_left, members_left, members_next, members_end}
use Rattle.fx_members.proofs.changes.change_members.Goals as goal

pub change_member-requires-clause-counted : goal.change_member-requires-clause-counted
change_member-requires-clause-counted g c = λ less.
    let ms = c.args.members.now in
    let i = c.loop-member.member-index in
    let k = c.member-item.result in
    let rest = drop (i + 1) ms in
    let now = c.loop-member.counts in
    let step : drop i ms ≡ k ∷ rest = drop_more ms i _ c.loop-member-test.true ∙ ap (λ x. x ∷ rest) (sym c.member-item.is) in
    member_left c.args.name now k rest (λ m. subst (λ xs. times xs m ≤ count_at now c.args.name m) step (c.loop-member.invariant.left less m))

pub loop-member-preserved : goal.loop-member-preserved
loop-member-preserved g c =
    let ms = c.args.members.now in
    let name = c.args.name in
    let more = c.args.more in
    let i = c.loop-member.member-index in
    let k = c.member-item.result in
    let rest = drop (i + 1) ms in
    let now = c.loop-member.counts in
    let then = c.change_member.new.counts in
    let was = c.loop-member.invariant in
    let is = c.in_ok-change_member.ensures in
    let step : drop i ms ≡ k ∷ rest = drop_more ms i _ c.loop-member-test.true ∙ ap (λ x. x ∷ rest) (sym c.member-item.is) in
    record {
      there = is.keys name ∙ was.there;
      left = λ less.
          members_left name now k rest (λ m. subst (λ xs. times xs m ≤ count_at now name m) step (was.left less m)) then
          (λ q m. is.counts q m ∙ ap (λ b. shifted b (cond (is_place name k q m) 1 0) (count_at now q m)) less);
      counts = members_next name ms more c.args.counts.now now then k rest
          (subst (λ xs. MembersSoFar name ms more c.args.counts.now now xs) step was.counts) is.counts;
      told = is.told;
      keys = λ q. is.keys q ∙ was.keys q;
    }

pub returns-clause-counts : goal.returns-clause-counts
returns-clause-counts g c =
    let ms = c.args.members.now in
    members_end c.args.name ms c.args.more c.args.counts.now c.loop-member.counts
    (subst (λ xs. MembersSoFar c.args.name ms c.args.more c.args.counts.now c.loop-member.counts xs) (drop_all c.loop-member.member-index ms c.loop-member-test.false) c.loop-member.invariant.counts)
