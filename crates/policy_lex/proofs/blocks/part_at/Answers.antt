use Rattle.std.proofs.Common.{◌∷◌, [], sym, ◌∙◌, true, false}
use Rattle.std.proofs.Math.Nat.{le_refl}
use Rattle.policy_lex.specs.working.LineViews.{lines_at, seen}
use Rattle.policy_lex.proofs.BlockSteps.{blocks_other, blocks_opened, blocks_none, no_blocks}
use Rattle.policy_lex.proofs.blocks.part_at.Goals as goal

pub returns-then-not-is_fence-clause-blocks : goal.returns-then-not-is_fence-clause-blocks
returns-then-not-is_fence-clause-blocks c =
    blocks_other c.args.document.now (seen c.args.line) (lines_at c.args.document.now c.args.line.next) (sym c.if-not-is_fence.ensures)

pub returns-in-Some-clause-blocks : goal.returns-in-Some-clause-blocks
returns-in-Some-clause-blocks c =
    blocks_opened c.args.document.now (seen c.args.line) (lines_at c.args.document.now c.args.line.next) (seen c.in-Some.closing ∷ lines_at c.args.document.now c.in-Some.closing.next)
    true (sym c.if-not-is_fence.ensures) (sym c.if-is_policy.ensures) (rw c.backticks.ensures.value at c.in-Some.ensures.line)

pub returns-in-Some-2-clause-blocks : goal.returns-in-Some-2-clause-blocks
returns-in-Some-2-clause-blocks c =
    blocks_opened c.args.document.now (seen c.args.line) (lines_at c.args.document.now c.args.line.next) (seen c.in-Some.closing ∷ lines_at c.args.document.now c.in-Some.closing.next)
    false (sym c.if-not-is_fence.ensures) (sym c.if-is_policy.ensures) (rw c.backticks.ensures.value at c.in-Some.ensures.line)

pub returns-in-None-clause-blocks : goal.returns-in-None-clause-blocks
returns-in-None-clause-blocks c =
    blocks_opened c.args.document.now (seen c.args.line) (lines_at c.args.document.now c.args.line.next) []
    true (sym c.if-not-is_fence.ensures) (sym c.if-is_policy-2.ensures) (rw c.backticks.ensures.value at c.in-None.ensures.line)

pub returns-in-None-2-clause-blocks : goal.returns-in-None-2-clause-blocks
returns-in-None-2-clause-blocks c =
    blocks_opened c.args.document.now (seen c.args.line) (lines_at c.args.document.now c.args.line.next) []
    false (sym c.if-not-is_fence.ensures) (sym c.if-is_policy-2.ensures) (rw c.backticks.ensures.value at c.in-None.ensures.line)
    ∙ blocks_none c.args.document.now ∙ sym (no_blocks c.args.document.now _ (le_refl _))
