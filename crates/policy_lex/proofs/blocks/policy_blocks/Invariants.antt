use Rattle.std.proofs.Common.{◌≡◌, ◌≤◌, ◌-◌, length}
use Rattle.policy_ast.specs.Fences.{blocks_from}
use Rattle.policy_ast.specs.Lines.{line_number}
use Rattle.policy_lex.specs.working.BlockViews.{AreBlocks}
use Rattle.policy_lex.specs.working.LineViews.{lines_at}
use Rattle.policy_lex.proofs.BlockSteps.{with_plain}
use Rattle.policy_lex.proofs.blocks.policy_blocks.Given as goal

abbrev pub invariant-loop-place : goal.invariant-loop-place
invariant-loop-place l = record {
  rest : with_plain l.blocks (blocks_from 0 l.document (lines_at l.document l.place)) ≡ blocks_from 0 l.document (lines_at l.document l.start);
  number : l.number ≡ line_number l.document l.place;
  places : AreBlocks l.document l.start l.blocks l.place;
  within : l.place ≤ length l.document;
}

abbrev pub decreases-loop-place : goal.decreases-loop-place
decreases-loop-place l = length l.document - l.place
