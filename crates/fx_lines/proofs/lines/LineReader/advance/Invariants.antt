use Rattle.std.proofs.Common.{◌≡◌, ◌≤◌, ◌+◌, ◌*◌, ◌-◌, ◌^◌, List, ℕ, ◌++◌, length, cond, true}
use Rattle.fx_base.specs.Streams.{Gives}
use Rattle.fx_lines.specs.Held.{rest_of}
use Rattle.fx_lines.proofs.Clips.{IsSeen}
use Rattle.fx_lines.proofs.lines.LineReader.advance.Given as goal

abbrev pub invariant-loop-self : goal.invariant-loop-self
invariant-loop-self g l = record {
  seen : (piece : List ℕ) × IsSeen (rest_of l.fn.self ++ piece) (rest_of l.self) l.seen
      × Gives (g.S.Source.state l.fn.source) (g.S.Source.state l.source) piece;
  given : (g.S.Source.state l.source).given ≡ l.self.taken;
  ended : (g.S.Source.state l.source).ended ≡ l.self.ended;
  quiet : l.fn.self.ended ≡ true → (l.self.ended ≡ true) × ((g.S.Source.state l.source).given ≡ (g.S.Source.state l.fn.source).given);
  later : (g.S.Source.state l.fn.source).faults ≤ (g.S.Source.state l.source).faults;
  within : l.seen ≤ length (rest_of l.self);
}

abbrev pub decreases-loop-self : goal.decreases-loop-self
decreases-loop-self g l = 2 * (2 ^ 32 - l.self.taken) + cond l.self.ended 0 1
