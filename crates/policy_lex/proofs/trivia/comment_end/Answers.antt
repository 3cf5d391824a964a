use Rattle.std.proofs.Common.{◌≡◌, ◌+◌, ap, sym, ◌∙◌, arith, Some}
use Rattle.policy_lex.proofs.Comments.{comment_ended, comment_passed, comment_left_open}
use Rattle.policy_lex.proofs.Drops.{dropped_whole}
use Rattle.policy_lex.proofs.trivia.comment_end.Goals as goal

pub returns-then-starts_with-clause-value : goal.returns-then-starts_with-clause-value
returns-then-starts_with-clause-value c =
    let same : c.loop-i.i + 2 ≡ 2 + c.loop-i.i = omega arith in
    ap Some same ∙ sym (comment_ended c.args.bytes.now c.loop-i.i (omega arith) (rw dropped_whole at (sym c.if-starts_with.ensures.value))) ∙ c.loop-i.invariant

pub loop-i-preserved : goal.loop-i-preserved
loop-i-preserved c = comment_passed c.args.bytes.now c.loop-i.i (omega arith) (rw dropped_whole at (sym c.if-starts_with.ensures.value)) ∙ c.loop-i.invariant

pub returns-clause-value : goal.returns-clause-value
returns-clause-value c = sym (comment_left_open c.args.bytes.now c.loop-i.i (omega arith)) ∙ c.loop-i.invariant
