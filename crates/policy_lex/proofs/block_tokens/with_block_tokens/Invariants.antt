use Rattle.std.proofs.Common.{◌≡◌, ◌≤◌, ◌-◌, All, length, slice_range}
use Rattle.policy_ast.specs.DocumentTokens.{IsTokenOf, block_tokens, with_tokens, tokens_from}
use Rattle.policy_ast.specs.Lines.{line_number}
use Rattle.policy_lex.specs.working.BlockViews.{plain}
use Rattle.policy_lex.proofs.block_tokens.with_block_tokens.Given as goal

abbrev pub invariant-loop-place : goal.invariant-loop-place
invariant-loop-place l = record {
  rest : with_tokens l.tokens.items (tokens_from l.version l.document l.place 0 (slice_range l.document l.place l.block.to)) ≡ with_tokens l.fn.tokens.items (block_tokens l.version l.document (plain l.fn.block));
  line : l.line ≡ line_number l.document l.place;
  few : length l.tokens.items ≤ l.place;
  slices : All (IsTokenOf l.version l.document) l.tokens.items;
  within : l.place ≤ l.block.to;
}

abbrev pub decreases-loop-place : goal.decreases-loop-place
decreases-loop-place l = l.block.to - l.place
