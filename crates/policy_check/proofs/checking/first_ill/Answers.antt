use Rattle.std.proofs.Common.{arith}
use Rattle.policy_check.proofs.Verdicts.{ill_at, well_all, well_more}
use Rattle.policy_check.proofs.checking.first_ill.Goals as goal

pub returns-then-not-branch : goal.returns-then-not-branch
returns-then-not-branch c =
    let items = c.args.judge.now in
    ill_at items (c.statements_and_items_are_judged.ensures items) c.loop-number.number c.in_ok-is_item.field-0 (omega (arith, c.loop-number-test.true, c.len-number-end.ensures))
    c.in_ok-is_item.ensures c.if-not-branch.true c.loop-number.invariant

pub loop-number-preserved : goal.loop-number-preserved
loop-number-preserved c =
    let items = c.args.judge.now in
    well_more items (c.statements_and_items_are_judged.ensures items) c.loop-number.number c.in_ok-is_item.field-0 c.in_ok-is_item.ensures c.if-not-branch.false c.loop-number.invariant

pub returns : goal.returns
returns c = well_all c.args.judge.now c.loop-number.number (omega (arith, c.loop-number-test.false, c.len-number-end.ensures)) c.loop-number.invariant
