use Rattle.std.proofs.Common.{◌≡◌, ◌≤◌, ◌-◌, length}
use Rattle.policy_lex.specs.working.BlockViews.{from_closing}
use Rattle.policy_lex.specs.working.LineViews.{lines_at}
use Rattle.policy_lex.proofs.blocks.closing_line.Given as goal

abbrev pub invariant-loop-place : goal.invariant-loop-place
invariant-loop-place l = record {
  rest : from_closing l.count (lines_at l.document l.place) ≡ from_closing l.count (lines_at l.document l.start);
  after : l.start ≤ l.place;
  within : l.place ≤ length l.document;
}

abbrev pub decreases-loop-place : goal.decreases-loop-place
decreases-loop-place l = length l.document - l.place
