use Rattle.std.proofs.Common.{◌≡◌, All, length, drop, map}
use Rattle.policy_ast.specs.DocumentTokens.{IsTokenOf, blocks_tokens, with_tokens}
use Rattle.policy_lex.specs.working.BlockViews.{AreBlocks, plain}
use Rattle.policy_lex.proofs.document.blocks_tokens.Given as goal

abbrev pub invariant-loop-block : goal.invariant-loop-block
invariant-loop-block l = record {
  rest : with_tokens l.tokens.items (blocks_tokens l.version l.document (map plain (drop l.block-index l.blocks))) ≡ blocks_tokens l.version l.document (map plain l.blocks);
  slices : All (IsTokenOf l.version l.document) l.tokens.items;
  blocks : AreBlocks l.document (length l.tokens.items) (drop l.block-index l.blocks) (length l.document);
}
