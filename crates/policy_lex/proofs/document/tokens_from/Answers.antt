use Rattle.std.proofs.Common.{arith, length}
use Rattle.policy_lex.proofs.BlockSteps.{blocks_after}
use Rattle.policy_lex.proofs.document.tokens_from.Goals as goal

pub blocks_tokens-requires-clause-blocks : goal.blocks_tokens-requires-clause-blocks
blocks_tokens-requires-clause-blocks c =
    rw c.as_slice.ensures (blocks_after c.args.document.now 0 c.args.place _ (length c.args.document.now) (omega arith) c.in_ok-blocks.ensures.places)
