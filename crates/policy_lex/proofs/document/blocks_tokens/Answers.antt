use Rattle.std.proofs.Common.{◌+◌, length, drop, get_or, map, sym, ap, ◌∙◌}
use Rattle.policy_ast.specs.DocumentTokens.{blocks_tokens, with_tokens}
use Rattle.policy_lex.specs.Answers.{named}
use Rattle.policy_lex.specs.declared.blocks.Block.{Block}
use Rattle.policy_lex.specs.working.BlockViews.{plain}
use Rattle.policy_lex.proofs.BlockSteps.{blocks_after, blocks_at, block_from}
use Rattle.policy_lex.proofs.TokenSteps.{blocks_failed, blocks_more_tokens, failed_alike}
use Rattle.std.proofs.lemmas.Result.{err_from_is_err_and}
use Rattle.policy_lex.proofs.document.blocks_tokens.Goals as goal

pub loop-block-preserved : goal.loop-block-preserved
loop-block-preserved c =
    let document = c.args.document.now in
    let blocks = c.args.blocks.now in
    let i = c.loop-block.block-index in
    let here = block_from blocks i (record { from = 0; to = 0; line = 0 }) c.loop-block-test.true in
    let places = blocks_at document (length c.loop-block.tokens.items) blocks i (length document) (record { from = 0; to = 0; line = 0 }) c.loop-block-test.true c.loop-block.invariant.blocks in
    record {
      rest = blocks_more_tokens c.args.version document c.loop-block.tokens.items c.in_ok-tokens.tokens.items (get_or blocks i (record { from = 0; to = 0; line = 0 })) (drop (i + 1) blocks) c.in_ok-tokens.ensures.answer
          ∙ ap (λ bs. with_tokens c.loop-block.tokens.items (blocks_tokens c.args.version document (map plain bs))) (sym here)
          ∙ c.loop-block.invariant.rest;
      slices = c.in_ok-tokens.ensures.slices;
      blocks = blocks_after document (length c.in_ok-tokens.tokens.items) _ (drop (i + 1) blocks) (length document) c.in_ok-tokens.ensures.few places.1;
    }

pub returns-in_err-tokens-clause-answer : goal.returns-in_err-tokens-clause-answer
returns-in_err-tokens-clause-answer c =
    let p = err_from_is_err_and c.from_residual.result c.from_residual.ensures.1 in
    let document = c.args.document.now in
    let blocks = c.args.blocks.now in
    let i = c.loop-block.block-index in
    let none : Block = record { from = 0; to = 0; line = 0 } in
    let here = block_from blocks i none c.loop-block-test.true in
    rw (p.1, p.2)
    (failed_alike (named c.in_err-tokens.field-0.0) _ _
    (λ fault is.
    sym c.loop-block.invariant.rest
    ∙ ap (λ bs. with_tokens c.loop-block.tokens.items (blocks_tokens c.args.version document (map plain bs))) here
    ∙ blocks_failed c.args.version document c.loop-block.tokens.items fault (get_or blocks i none) (drop (i + 1) blocks) is)
    c.in_err-tokens.ensures.answer)
